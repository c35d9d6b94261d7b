use Prim.Native.Nat.{◌+◌}
use native.Mathlib.Omega.{arith}
use mathlib.Core.Bool.{false≢true}
use mathlib.Core.Path.{◌≡◌, ◌∙◌, sym, subst}
use borrow.Author.Tests.{eqb-true, eq-eqb}
use borrow.Author.Count.{below_none, below_more}
use Rattle.theory.specs.Grammar.{UnitTo}
use Rattle.table.specs.Places.Step.{held_nonterms}
use Rattle.table.specs.Places.{grammar_in}
use Rattle.table.specs.Notions.{nonterm}
use Rattle.table.specs.Sets.{bit}
use Rattle.table.specs.Checks.{Lowest, OnRing}
use Rattle.table.proofs.Lowest.{ring_at, ring_none}
use Rattle.table.proofs.faults.lowest_ring.Goals as goal

pub loop-k-init : goal.loop-k-init
loop-k-init c = below_none _

pub set_of-set-requires : goal.set_of-set-requires
set_of-set-requires c = let H = c.args.t.now.rules_held in
    let t = H.terms_are in
    let n = H.nonterms_are in
    let l = c.loop-k-test.true in
    (omega arith, omega arith)

pub has-requires : goal.has-requires
has-requires c = let n = held_nonterms c.args.t.now.rules_held in let l = c.loop-k-test.true in omega arith

pub returns-then-has : goal.returns-then-has
returns-then-has c = let g = grammar_in c.args.t.now.numbers.now in
    let H = c.args.t.now.rules_held in
    let t = H.terms_are in
    let n = H.nonterms_are in
    let k = c.loop-k.k in
    let l = c.loop-k-test.true in
    let v : nonterm g k ≡ c.args.t.now.sizes.terms + 1 + k = omega arith in
    let i = eqb-true (bit c.set_of-set.result k) 1 (sym c.has.ensures ∙ c.if-has.true) in
    subst (Lowest (OnRing g)) v (ring_at g k c.loop-k.invariant (omega arith) (subst (UnitTo g (nonterm g k)) (sym v) (c.set_of-set.ensures.holds k i)))

pub loop-k-preserved : goal.loop-k-preserved
loop-k-preserved c = let g = grammar_in c.args.t.now.numbers.now in
    let H = c.args.t.now.rules_held in
    let t = H.terms_are in
    let k = c.loop-k.k in
    let l = c.loop-k-test.true in
    let v : nonterm g k ≡ c.args.t.now.sizes.terms + 1 + k = omega arith in
    below_more _ _ c.loop-k.invariant (λ u.
    false≢true (sym c.if-has.false ∙ c.has.ensures ∙ eq-eqb _ _ (c.set_of-set.ensures.shows k l (subst (UnitTo g (nonterm g k)) v u))))

pub returns : goal.returns
returns c = let H = c.args.t.now.rules_held in
    let n = H.nonterms_are in
    let l = c.loop-k-test.false in
    ring_none (grammar_in c.args.t.now.numbers.now) c.loop-k.k c.loop-k.invariant (omega arith)
