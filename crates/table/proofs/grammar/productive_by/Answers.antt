-- `grammar::productive_by` meets its contract: by the test of the rule's right side.
use native.Mathlib.Omega.{arith}
use mathlib.Core.Path.{subst}
use Rattle.theory.specs.Table.{rule_at}
use Rattle.table.specs.Tests.Tell.{refutes}
use Rattle.table.specs.Places.Step.{held_left, held_nonterms, held_formed, held_mem}
use Rattle.table.specs.Places.{grammar_in}
use Rattle.table.specs.Notions.{Grows}
use Rattle.table.specs.declared.Notion.{Notion}
use Rattle.table.proofs.Notions.{with-is, stays, productive_grows}
use Rattle.table.proofs.grammar.productive_by.Goals as goal

pub with-requires : goal.with-requires
with-requires c = let e = c.left_of-a.ensures in
    let h = held_left c.args.t.now.rules_held c.args.r c.requires.0 in
    let n = held_nonterms c.args.t.now.rules_held in
    (omega arith, omega arith)

pub returns-then-all_made : goal.returns-then-all_made
returns-then-all_made c = let g = grammar_in c.args.t.now.numbers.now in
    let H = c.args.t.now.rules_held in
    subst (Grows g Notion.Productive (rule_at g c.args.r) c.args.set) (with-is c.args.set c.with.ensures H.terms_are c.left_of-a.ensures)
    (productive_grows g (held_formed H) (held_mem H c.args.r c.requires.0) c.requires.1 (c.all_made.ensures.holds c.if-all_made.true))

pub returns : goal.returns
returns c = let g = grammar_in c.args.t.now.numbers.now in
    stays g c.requires.1 (λ m. absurd (refutes c.all_made.ensures c.if-all_made.false m))
