-- `hang` meets its contract: one join.
use Rattle.forest.specs.Joins.{SomeTwo, Joins}
use Prim.Native.Nat.{ℕ}
use mathlib.Core.Path.{subst, subst⁻¹}
use Rattle.forest.proofs.paths.hang.Goals as goal

pub join-requires : goal.join-requires
join-requires c =
    subst⁻¹ (λ (z : ℕ). SomeTwo c.args.room.now 0 2 c.args.x z) c.get-y.ensures.0 c.requires

pub returns : goal.returns
returns c =
    let the-join = c.join in
    subst (λ (z : ℕ). Joins c.args.room.now 0 2 c.args.x z the-join.new.room) c.get-y.ensures.0 the-join.ensures
