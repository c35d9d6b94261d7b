-- `settle` meets its contract: one join, and the word of the trees set aside is cleared.
use Rattle.forest.specs.Joins.{SomeTwo, Joins}
use Rattle.forest.specs.Words.{at}
use Prim.Native.Nat.{ℕ}
use mathlib.Core.Path.{subst, subst⁻¹}
use Rattle.forest.proofs.steps.settle.Goals as goal

pub join-requires : goal.join-requires
join-requires c =
    let v = c.args.room.now in
    subst⁻¹ (λ (z : ℕ). SomeTwo v 0 1 z c.get-y.result) c.get-x.ensures.0
    (subst⁻¹ (λ (z : ℕ). SomeTwo v 0 1 (at v 0 1) z) c.get-y.ensures.0 c.requires)

pub returns : goal.returns
returns c =
    let the-get2 = c.get-y in
    let the-join = c.join in
    let v = c.args.room.now in
    let u = the-join.new.room in (
      u,
      subst (λ (z : ℕ). Joins v 0 1 (at v 0 1) z u) the-get2.ensures.0
          (subst (λ (z : ℕ). Joins v 0 1 z the-get2.result u) c.get-x.ensures.0 the-join.ensures),
      c.put.ensures,
    )
