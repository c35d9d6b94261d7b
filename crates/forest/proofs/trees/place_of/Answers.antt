use Rattle.forest.proofs.Turns.{passing, passes, first_in}
use Rattle.forest.specs.Joins.{Passed}
use Rattle.forest.specs.Trees.{live}
use Rattle.forest.specs.Words.{at}
use native.Mathlib.Omega.{arith}
use Prim.Native.Nat.{ℕ, ◌<◌}
use mathlib.Core.Path.{subst⁻¹}
use Rattle.forest.proofs.trees.place_of.Goals as goal

pub loop-place-init : goal.loop-place-init
loop-place-init c = passing c.args.room.now c.args.p c.get.result c.requires.0 c.get.ensures.0

pub get-requires-in-loop-place : goal.get-requires-in-loop-place
get-requires-in-loop-place c = let S = c.loop-place.invariant.some in (omega arith, first_in S, S.two.words)

pub get-requires-in-loop-place-2 : goal.get-requires-in-loop-place-2
get-requires-in-loop-place-2 c = let S = c.loop-place.invariant.some in (omega arith, first_in S, S.two.words)

-- the root at hand is passed by
turn : (c : goal.After-get-in-loop-place-2) →
    let a = c.loop-place.place.rest in
    let w = c.args.room.now in
    Passed w c.args.p a 2 (at w a 2) × (live w (at w a 2) < live w a)
turn c =
    let g = c.loop-place in
    passes c.args.room.now c.args.p g.place.node g.place.word g.place.rest c.loop-place-test.true (λ z. omega (arith, c.requires.1)) g.invariant
    (omega (arith, c.if-s-get.false, c.get-in-loop-place.ensures.0, c.requires.2))

pub loop-place-smaller : goal.loop-place-smaller
loop-place-smaller c =
    let w = c.args.room.now in
    subst⁻¹ (λ (z : ℕ). live w z < live w c.loop-place.place.rest) c.get-in-loop-place-2.ensures.0 (turn c).1

pub loop-place-preserved : goal.loop-place-preserved
loop-place-preserved c =
    subst⁻¹ (λ (z : ℕ). Passed c.args.room.now c.args.p c.loop-place.place.rest 2 z) c.get-in-loop-place-2.ensures.0 (turn c).0
