use Rattle.forest.proofs.Spreading.{begins, skips, goes_left, goes_took, goes_two, grows_on, goes_down, goes_done}
use Rattle.forest.proofs.Taking.{zero_in}
use Rattle.forest.specs.Joins.{SomeTwo, Joins}
use Rattle.forest.specs.Words.{at}
use native.Mathlib.Omega.{arith}
use Prim.Native.Nat.{ℕ}
use mathlib.Core.List.{List}
use mathlib.Core.Path.{◌∙◌, subst, subst⁻¹}
use Rattle.forest.proofs.trees.spread.Goals as goal

pub loop-i-init : goal.loop-i-init
loop-i-init c = begins c.args.room.now c.args.row.now c.requires.0 c.requires.1

pub take-p-requires : goal.take-p-requires
take-p-requires c = goes_left (goes_down c.loop-i-test.true c.loop-i.invariant)

pub lay-requires : goal.lay-requires
lay-requires c =
    let G = goes_down c.loop-i-test.true c.loop-i.invariant in
    let k = goes_took G c.take-p.new.room c.take-p.result c.take-p.ensures in
    (k.0, omega (arith, k.1, G.len, G.some.has.words), omega (arith, c.in-Some.ensures.1), omega arith)

pub get-r-requires : goal.get-r-requires
get-r-requires c =
    let G = c.loop-i.invariant in
    let k = c.lay.auto.room ∙ c.take-p.auto.room in
    (omega arith, omega (arith, k, G.len, zero_in G.some.has.pool), omega (arith, k, G.len, G.some.has.words))

pub join-requires : goal.join-requires
join-requires c =
    let G = goes_down c.loop-i-test.true c.loop-i.invariant in
    subst⁻¹ (λ (z : ℕ). SomeTwo c.lay.new.room 0 2 c.take-p.result z) c.get-r.ensures.0
    (subst⁻¹ (λ (l : List ℕ). SomeTwo l 0 2 c.take-p.result (at l 0 2)) c.lay.ensures
    (goes_two G c.take-p.new.room c.take-p.result c.in-Some.target c.take-p.ensures))

pub loop-i-preserved-in-Some : goal.loop-i-preserved-in-Some
loop-i-preserved-in-Some c =
    let G = goes_down c.loop-i-test.true c.loop-i.invariant in
    let p = c.take-p.result in
    let x = c.join.new.room in
    grows_on G c.in-Some.target c.in-Some.ensures.0 c.take-p.new.room p c.take-p.ensures x
    (subst (λ (l : List ℕ). Joins l 0 2 p (at l 0 2) x) c.lay.ensures
    (subst (λ (z : ℕ). Joins c.lay.new.room 0 2 p z x) c.get-r.ensures.0 c.join.ensures))
    (c.join.auto.room ∙ c.lay.auto.room ∙ c.take-p.auto.room)

pub loop-i-preserved : goal.loop-i-preserved
loop-i-preserved c = skips (goes_down c.loop-i-test.true c.loop-i.invariant) c.in_default.ensures

pub returns : goal.returns
returns c = goes_done c.loop-i-test.false c.loop-i.invariant
