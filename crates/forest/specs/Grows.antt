-- What growth asks and leaves: the trees some nodes below a list get new roots and are merged into the forest, node 0's roots.
use Rattle.std.specs.Prelude.{◌≡◌, Bool, List, ℕ, ◌+◌, ◌≤◌, ◌<◌, length}
use Rattle.theory.specs.Table.{Table}
use Rattle.theory.specs.Forest.{grow, short, Rising}
use Rattle.theory.specs.Forest.Sizes.{width}
use Rattle.forest.specs.Words.{state_word, child_word, next_word, roots_word, at, poke, max_words}
use Rattle.forest.specs.Trees.{Tree, erase, weigh, one, each, occ, size, Rep}
use Rattle.forest.specs.Pools.{Pool, pooled, Pooled}
use Rattle.forest.specs.Rows.{Row}
use Rattle.forest.specs.Joins.{Kept}

-- The words hold f at x, the roots and the store, apart. The store and the roots are more than the states: roots are at most as many as
-- states, so no node is taken from an empty store.
pub record Source (w : List ℕ) (m x : ℕ) (f to : Tree) (P : Pool) : Type 0 where
  pub source : Rep w x f
  pub roots : Rep w (at w 0 roots_word) to
  pub pool : Pooled w P
  pub once : (q : ℕ) → occ q f + occ q to + pooled (one q) P ≤ 1
  pub rising : Rising m (erase f)
  pub rising_to : Rising m (erase to)
  pub fits : size f + size to + pooled each P ≤ length w
  pub enough : m < width (erase to) + pooled each P
  pub words : length w ≤ max_words

-- some trees and some store are so, and the row is that of some table's symbol
pub record SomeSource (w row : List ℕ) (x : ℕ) : Type 0 where
  pub m : ℕ
  pub t : Table
  pub y : ℕ
  pub f : Tree
  pub to : Tree
  pub P : Pool
  pub goes : Row row m t y
  pub holds : Source w m x f to P

-- The roots are what is grown. What dropped out is in the store, and every node is where it was or there.
pub record Grown (w v : List ℕ) (t : Table) (y d : ℕ) (f to : Tree) (P : Pool) : Type 0 where
  pub tree : Tree
  pub left : Pool
  pub rep : Rep v (at v 0 roots_word) tree
  pub means : erase tree ≡ grow t y d (erase f) (erase to)
  pub pool : Pooled v left
  pub weight : (m : ℕ → ℕ) → weigh m tree + pooled m left ≡ weigh m f + weigh m to + pooled m P
  pub kept : Kept w v 0 roots_word (λ q. occ q f + occ q to + pooled (one q) P)
  pub len : length v ≡ length w

-- whatever trees and store the words held, whatever table the row is of
abbrev pub Grows : List ℕ → List ℕ → ℕ → ℕ → List ℕ → Type 0
Grows w row d x v = (m : ℕ) (t : Table) (y : ℕ) (f to : Tree) (P : Pool) → Row row m t y → Source w m x f to P → Grown w v t y d f to P

-- the same, and the answer is whether a path of the trees is short
abbrev pub GrowsTold : List ℕ → List ℕ → ℕ → ℕ → List ℕ → Bool → Type 0
GrowsTold w row d x v r = (m : ℕ) (t : Table) (y : ℕ) (f to : Tree) (P : Pool) → Row row m t y → Source w m x f to P →
    Grown w v t y d f to P × (r ≡ short d (erase f))

-- the words with node p a root of state s above the list at x
unfoldable pub rooted : List ℕ → ℕ → ℕ → ℕ → List ℕ
rooted w p s x = poke (poke (poke w p state_word s) p child_word x) p next_word 0
