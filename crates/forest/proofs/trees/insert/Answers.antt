-- `insert` meets its contract: behind the roots that are passed by there is nothing, or what is there is joined.
use Rattle.forest.proofs.Turns.{second_in}
use Rattle.forest.proofs.Keep.{end_left}
use Rattle.forest.specs.Joins.{Joins}
use Rattle.forest.specs.Words.{at}
use native.Mathlib.Omega.{arith}
use Prim.Native.Nat.{ℕ}
use mathlib.Core.List.{List}
use mathlib.Core.Path.{subst⁻¹}
use Rattle.forest.proofs.trees.insert.Goals as goal

pub put-requires : goal.put-requires
put-requires c =
    let S = c.place_of-place.ensures.some in
    (omega (arith, S.two.link), S.two.inside, S.two.words, omega (arith, second_in S, S.two.words))

pub returns-then-place-eq0 : goal.returns-then-place-eq0
returns-then-place-eq0 c =
    let s = c.args in
    let w = s.room.now in
    let G = c.place_of-place in
    subst⁻¹ (λ (u : List ℕ). Joins w 0 1 (at w 0 1) s.p u) c.put.ensures
    (G.ensures.back _ (end_left w G.result.node G.result.word G.result.rest s.p c.if-place-eq0.true))

pub returns : goal.returns
returns c = c.place_of-place.ensures.back _ c.join.ensures
