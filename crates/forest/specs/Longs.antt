-- What the making of a row's one-node trees asks and leaves: they are set aside, merged, in node 0's word for that.
use Rattle.std.specs.Prelude.{◌≡◌, List, ℕ, zero, suc, ◌+◌, ◌≤◌, length}
use Rattle.std.proofs.Math.Option.{Option, none, some}
use Rattle.theory.specs.Forest.{Forest, nothing, tree, join}
use Rattle.forest.specs.Words.{aside_word, at, max_words}
use Rattle.forest.specs.Trees.{Tree, erase, weigh, one, each, size, Rep}
use Rattle.forest.specs.Pools.{Pool, pooled, Pooled}
use Rattle.forest.specs.Rows.{meant}
use Rattle.forest.specs.Joins.{Kept}

-- the one-node tree of a state, if there is one
abbrev pub leaf : Option ℕ → Forest
leaf none = nothing
leaf (some u) = tree u nothing nothing

-- those of k states from i on, merged
unfoldable pub leaves : (ℕ → Option ℕ) → ℕ → ℕ → Forest
leaves h i zero = nothing
leaves h i (suc k) = join (leaf (h i)) (leaves h (suc i) k)

-- the store has a node for each entry of the row, and each of its nodes once
pub record Plenty (w row : List ℕ) (P : Pool) : Type 0 where
  pub pool : Pooled w P
  pub once : (q : ℕ) → pooled (one q) P ≤ 1
  pub enough : length row ≤ pooled each P
  pub fits : pooled each P ≤ length w
  pub words : length w ≤ max_words

-- some store is so
pub record SomePlenty (w row : List ℕ) : Type 0 where
  pub P : Pool
  pub has : Plenty w row P

-- set aside is G, of at most k nodes; the other nodes are in the store
pub record Aside (w v : List ℕ) (G : Forest) (k : ℕ) (P : Pool) : Type 0 where
  pub tree : Tree
  pub left : Pool
  pub rep : Rep v (at v 0 aside_word) tree
  pub means : erase tree ≡ G
  pub few : size tree ≤ k
  pub pool : Pooled v left
  pub weight : (m : ℕ → ℕ) → weigh m tree + pooled m left ≡ pooled m P
  pub kept : Kept w v 0 aside_word (λ q. pooled (one q) P)
  pub len : length v ≡ length w

-- whatever store the words held
abbrev pub Asides : List ℕ → List ℕ → Forest → ℕ → List ℕ → Type 0
Asides w row G k v = (P : Pool) → Plenty w row P → Aside w v G k P

-- set aside are the trees of k entries from i on
abbrev pub Spread : List ℕ → List ℕ → List ℕ → ℕ → ℕ → Pool → Type 0
Spread w v row i k P = Aside w v (leaves (meant row) i k) k P

-- whatever store the words held
abbrev pub Spreads : List ℕ → List ℕ → ℕ → ℕ → List ℕ → Type 0
Spreads w row i k v = Asides w row (leaves (meant row) i k) k v
