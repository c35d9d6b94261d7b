-- What the taking of a node asks and leaves.
use Rattle.std.specs.Prelude.{◌≡◌, List, ℕ, ◌+◌, ◌≤◌, ◌<◌, length}
use Rattle.forest.specs.Words.{free_word, Inside, max_words}
use Rattle.forest.specs.Trees.{one, each}
use Rattle.forest.specs.Pools.{Pool, pooled, Pooled}
use Rattle.forest.specs.Joins.{Kept}

-- the store has a node, and each of its nodes once
pub record Left (w : List ℕ) (P : Pool) : Type 0 where
  pub pool : Pooled w P
  pub once : (q : ℕ) → pooled (one q) P ≤ 1
  pub some : 0 < pooled each P
  pub words : length w ≤ max_words

-- some store is so
pub record SomeLeft (w : List ℕ) : Type 0 where
  pub P : Pool
  pub has : Left w P

-- node p is out of the store, and the others are in it
pub record Took (w v : List ℕ) (p : ℕ) (P : Pool) : Type 0 where
  pub left : Pool
  pub pool : Pooled v left
  pub weight : (m : ℕ → ℕ) → m p + pooled m left ≡ pooled m P
  pub live : 0 < p
  pub inside : Inside v p
  pub kept : Kept w v 0 free_word (λ q. pooled (one q) P)
  pub len : length v ≡ length w

-- whatever store the words held
abbrev pub Takes : List ℕ → ℕ → List ℕ → Type 0
Takes w p v = (P : Pool) → Left w P → Took w v p P
