-- `lay` meets its contract: three stores.
use Rattle.forest.specs.Grows.{rooted}
use Rattle.forest.specs.Words.{poke}
use Prim.Native.Nat.{ℕ}
use mathlib.Core.List.{List}
use mathlib.Core.Path.{◌∙◌, ap}
use Rattle.forest.proofs.trees.lay.Goals as goal

pub returns : goal.returns
unfolding rooted
returns c =
    let s = c.args in
    c.put-3.ensures ∙ ap (λ (l : List ℕ). poke l s.p 2 0) (c.put-2.ensures ∙ ap (λ (l : List ℕ). poke l s.p 1 s.x) c.put.ensures)
