-- `drop_one` meets its contract: two stores, then `push`.
use Prim.Native.Nat.{ℕ}
use Rattle.forest.specs.Pools.{pushed, dropped}
use Rattle.forest.specs.Words.{poke}
use mathlib.Core.List.{List}
use mathlib.Core.Path.{◌∙◌, ap}
use Rattle.forest.proofs.store.drop_one.Goals as goal

pub returns : goal.returns
unfolding dropped
returns c =
    let x = c.args.x in
    c.push.ensures ∙ ap (λ (l : List ℕ). pushed l x) (c.put-2.ensures ∙ ap (λ (l : List ℕ). poke l x 2 0) c.put.ensures)
