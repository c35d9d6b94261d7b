-- Forests by their paths. A path is its states from the root down, each entry one more than its state; a 0 stands between two paths.
-- The last state of a path is a node without children: what lies below it is not known.
use Rattle.std.specs.Prelude.{List, [], ◌∷◌, ℕ, zero, suc}
use Rattle.theory.specs.Forest.{Forest, nothing, tree, join}

-- the first path: a tree in which no node has two children
unfoldable pub chain : List ℕ → Forest
chain [] = nothing
chain (zero ∷ us) = nothing
chain (suc s ∷ us) = tree s (chain us) nothing

-- the later paths, merged
unfoldable pub later : List ℕ → Forest
later [] = nothing
later (zero ∷ us) = join (chain us) (later us)
later (suc s ∷ us) = later us

-- all paths, merged
unfoldable pub planted : List ℕ → Forest
planted us = join (chain us) (later us)
