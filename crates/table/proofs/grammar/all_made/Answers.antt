use Prim.Native.Nat.{ℕ}
use native.Mathlib.Omega.{arith}
use mathlib.Core.Bool.{true, false, false≢true}
use mathlib.Core.Path.{◌≡◌, ◌∙◌, sym, ap}
use lib.ListN.{get_or}
use borrow.Author.Count.{below_none, below_more}
use Rattle.theory.specs.Table.{rule_at}
use Rattle.table.specs.Tests.Tell.{tells_yes, tells_no}
use Rattle.table.specs.Notions.{made}
use Rattle.table.specs.Places.Step.{held_symbol, held_nonterms}
use Rattle.table.specs.Places.{grammar_in}
use Rattle.table.specs.Members.{mem_at, all_mem}
use Rattle.table.proofs.grammar.all_made.Goals as goal

pub loop-j-init : goal.loop-j-init
loop-j-init c = below_none _

pub right_symbol-x-requires : goal.right_symbol-x-requires
right_symbol-x-requires c = let e = c.right_count-j-end.ensures in (c.requires, omega arith)

pub made-requires : goal.made-requires
made-requires c = let e = c.right_count-j-end.ensures in
    let g = grammar_in c.args.t.now.numbers.now in
    let x = c.right_symbol-x.ensures in
    let m = mem_at (rule_at g c.args.r).right c.loop-j.j 0 (omega arith) in
    let h = held_symbol c.args.t.now.rules_held c.args.r c.requires _ m in
    let n = held_nonterms c.args.t.now.rules_held in
    omega arith

pub returns-then-not-made : goal.returns-then-not-made
returns-then-not-made c = let g = grammar_in c.args.t.now.numbers.now in
    let right = (rule_at g c.args.r).right in
    let e = c.right_count-j-end.ensures in
    let x = c.right_symbol-x.ensures in
    let f : made c.args.t.now.sizes.terms c.args.set (get_or right c.loop-j.j 0) ≡ false =
    sym (ap (λ (y : ℕ). made c.args.t.now.sizes.terms c.args.set y) x) ∙ sym c.made.ensures ∙ c.if-not-made.true in
    let m = mem_at right c.loop-j.j 0 (omega arith) in
    tells_no (λ h. false≢true (sym f ∙ ap (λ (t : ℕ). made t c.args.set (get_or right c.loop-j.j 0)) c.args.t.now.rules_held.terms_are ∙ h _ m))

pub loop-j-preserved : goal.loop-j-preserved
loop-j-preserved c = below_more _ _ c.loop-j.invariant (sym (ap (λ (x : ℕ). made c.args.t.now.sizes.terms c.args.set x) c.right_symbol-x.ensures) ∙ sym c.made.ensures ∙ c.if-not-made.false)

pub returns : goal.returns
returns c = let g = grammar_in c.args.t.now.numbers.now in
    let right = (rule_at g c.args.r).right in
    let e = c.right_count-j-end.ensures in
    tells_yes (all_mem (λ x. made g.terms c.args.set x ≡ true) right 0 (λ k l.
    sym (ap (λ (t : ℕ). made t c.args.set (get_or right k 0)) c.args.t.now.rules_held.terms_are) ∙ c.loop-j.invariant k (omega arith)))
