-- `grammar::reachable_by` meets its contract: by whether the rule's left side is in the set.
use Prim.Native.Nat.{ℕ}
use native.Mathlib.Omega.{arith}
use mathlib.Core.Bool.{false≢true}
use mathlib.Core.Path.{◌∙◌, sym, ap}
use Rattle.table.specs.Places.Step.{held_left, held_nonterms}
use Rattle.table.specs.Places.{grammar_in}
use Rattle.table.specs.Notions.{member}
use Rattle.table.proofs.Notions.{stays}
use Rattle.table.proofs.grammar.reachable_by.Goals as goal

pub member-requires : goal.member-requires
member-requires c = let e = c.left_of-a.ensures in
    let h = held_left c.args.t.now.rules_held c.args.r c.requires.0 in
    let n = held_nonterms c.args.t.now.rules_held in
    omega arith

pub with_right-requires : goal.with_right-requires
with_right-requires c = (c.requires.0, c.requires.1, ap (λ (x : ℕ). member c.args.t.now.sizes.terms c.args.set x) (sym c.left_of-a.ensures) ∙ sym c.member.ensures ∙ c.if-member.true)

pub returns : goal.returns
returns c = let g = grammar_in c.args.t.now.numbers.now in
    let t = c.args.t.now.rules_held.terms_are in
    let a = c.left_of-a.ensures in
    stays g c.requires.1 (λ h. absurd (false≢true (sym c.if-member.false ∙ c.member.ensures ∙ (λ i. member (t i) c.args.set (a i)) ∙ h)))
