-- What a join asks and leaves: two lists of trees in the room are merged, and a word of a node leads to the result.
use Rattle.std.specs.Prelude.{◌≡◌, List, ℕ, ◌+◌, ◌≤◌, ◌<◌, length}
use Rattle.theory.specs.Forest.{join, meet}
use Rattle.forest.specs.Words.{stride, child_word, roots_word, at, Inside, max_words}
use Rattle.forest.specs.Trees.{Tree, erase, weigh, one, occ, size, Rep}
use Rattle.forest.specs.Pools.{Pool, pooled, Pooled}

-- No word has changed but those of the touched nodes, word j of node d, and node 0's first and last, which are the store's.
abbrev pub Kept : List ℕ → List ℕ → ℕ → ℕ → (ℕ → ℕ) → Type 0
Kept w v d j touched =
    (q i : ℕ) → i < stride → touched q ≡ 0 → (q ≡ d → i ≡ j → ⊥) → (q ≡ 0 → (1 ≤ i) × (i ≤ 2)) → at v q i ≡ at w q i

-- The words hold f at x and g at y, apart from each other, from the store and from node d, whose word j is to lead to their join.
pub record Two (w : List ℕ) (d j x y : ℕ) (f g : Tree) (P : Pool) : Type 0 where
  pub first : Rep w x f
  pub second : Rep w y g
  pub pool : Pooled w P
  pub once : (q : ℕ) → occ q f + occ q g + pooled (one q) P ≤ 1
  pub apart : occ d f + occ d g + pooled (one d) P ≡ 0
  pub inside : Inside w d
  pub link : (1 ≤ j) × (j ≤ 2)
  pub fits : size f + size g ≤ length w
  pub words : length w ≤ max_words

-- some trees and some store are so
pub record SomeTwo (w : List ℕ) (d j x y : ℕ) : Type 0 where
  pub f : Tree
  pub g : Tree
  pub P : Pool
  pub two : Two w d j x y f g P

-- Word j of node d leads to the join. What dropped out is in the store, and every node is where it was or there.
pub record Joined (w v : List ℕ) (d j : ℕ) (f g : Tree) (P : Pool) : Type 0 where
  pub tree : Tree
  pub left : Pool
  pub rep : Rep v (at v d j) tree
  pub means : erase tree ≡ join (erase f) (erase g)
  pub pool : Pooled v left
  pub weight : (m : ℕ → ℕ) → weigh m tree + pooled m left ≡ weigh m f + weigh m g + pooled m P
  pub kept : Kept w v d j (λ q. occ q f + occ q g + pooled (one q) P)
  pub len : length v ≡ length w

-- whatever trees and store the words held
abbrev pub Joins : List ℕ → ℕ → ℕ → ℕ → ℕ → List ℕ → Type 0
Joins w d j x y v = (f g : Tree) (P : Pool) → Two w d j x y f g P → Joined w v d j f g P

-- Word j of node d leads to a, and to join what is there with the list at p is to join all roots with it.
pub record Passed (w : List ℕ) (p d j a : ℕ) : Type 0 where
  pub some : SomeTwo w d j a p
  pub leads : at w d j ≡ a
  pub back : (u : List ℕ) → Joins w d j a p u → Joins w 0 roots_word (at w 0 roots_word) p u

-- Nodes a and b have the children k and k', and all are apart.
pub record Pair (w : List ℕ) (a b : ℕ) (k k' : Tree) (P : Pool) : Type 0 where
  pub first : Rep w (at w a child_word) k
  pub second : Rep w (at w b child_word) k'
  pub pool : Pooled w P
  pub once : (q : ℕ) → occ q k + occ q k' + pooled (one q) P + one q b ≤ 1
  pub apart : occ a k + occ a k' + pooled (one a) P + one a b ≡ 0
  pub inside : Inside w a
  pub inside_b : Inside w b
  pub live_b : 0 < b
  pub fits : size k + size k' ≤ length w
  pub words : length w ≤ max_words

-- some children and some store are so
pub record SomePair (w : List ℕ) (a b : ℕ) : Type 0 where
  pub k : Tree
  pub k' : Tree
  pub P : Pool
  pub pair : Pair w a b k k' P

-- Node a's children are the merged ones. What dropped out, b among it, is in the store.
pub record Met (w v : List ℕ) (a b : ℕ) (k k' : Tree) (P : Pool) : Type 0 where
  pub tree : Tree
  pub left : Pool
  pub rep : Rep v (at v a child_word) tree
  pub means : erase tree ≡ meet (erase k) (erase k') (join (erase k) (erase k'))
  pub pool : Pooled v left
  pub weight : (m : ℕ → ℕ) → weigh m tree + pooled m left ≡ weigh m k + weigh m k' + m b + pooled m P
  pub kept : Kept w v a child_word (λ q. occ q k + occ q k' + pooled (one q) P + one q b)
  pub len : length v ≡ length w

-- whatever children and store the words held
abbrev pub Meets : List ℕ → ℕ → ℕ → List ℕ → Type 0
Meets w a b v = (k k' : Tree) (P : Pool) → Pair w a b k k' P → Met w v a b k k' P
