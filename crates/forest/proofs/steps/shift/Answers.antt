-- `shift` meets its contract: the roots are cut off, then grown.
use Rattle.forest.proofs.Growing.{untold}
use Rattle.forest.proofs.Holding.{shift_some, shift_shifts}
use Rattle.forest.specs.Grows.{SomeSource, Grows}
use Rattle.forest.specs.Words.{at, poke}
use Prim.Native.Nat.{ℕ}
use mathlib.Core.List.{List}
use mathlib.Core.Path.{subst, subst⁻¹}
use Rattle.forest.proofs.steps.shift.Goals as goal

pub grow-requires : goal.grow-requires
grow-requires c =
    let the-get = c.get-x in
    let row = c.args.row.now in
    subst⁻¹ (λ (l : List ℕ). SomeSource l row the-get.result) c.put.ensures (subst⁻¹ (λ (z : ℕ). SomeSource (poke c.args.room.now 0 1 0) row z) the-get.ensures.0 (shift_some c.requires))

pub returns : goal.returns
returns c =
    let the-put = c.put in
    let the-grow = c.grow in
    let row = c.args.row.now in
    let w = c.args.room.now in
    let v = the-grow.new.room in
    shift_shifts w row v (subst (λ (l : List ℕ). Grows l row 0 (at w 0 1) v) the-put.ensures (subst (λ (z : ℕ). Grows the-put.new.room row 0 z v) c.get-x.ensures.0 (untold the-grow.ensures)))
