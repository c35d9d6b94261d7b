-- The free store: the nodes that no tree of the forest has. They are freed trees, linked through their roots, and the nodes never used.
use Rattle.std.specs.Prelude.{◌≡◌, cond, List, [], ◌∷◌, ℕ, zero, suc, ◌+◌, ◌*◌, ◌≤◌, ◌<◌, eqb, length}
use Rattle.forest.specs.Words.{stride, child_word, next_word, link_word, unused_word, free_word, at, poke}
use Rattle.forest.specs.Trees.{Tree, nil, node, weigh, Rep}

-- the freed trees, the first node never used, and how many there are from it on
pub record Pool : Type 0 where
  pub trees : List Tree
  pub fresh : ℕ
  pub unused : ℕ

-- the weights of all places of some trees
abbrev pub weighs : (ℕ → ℕ) → List Tree → ℕ
weighs m [] = 0
weighs m (t ∷ ts) = weigh m t + weighs m ts

-- the weights of k numbers from a
abbrev pub run : (ℕ → ℕ) → ℕ → ℕ → ℕ
run m a zero = 0
run m a (suc k) = m a + run m (suc a) k

-- the weights of all nodes of the store
abbrev pub pooled : (ℕ → ℕ) → Pool → ℕ
pooled m P = weighs m P.trees + run m P.fresh P.unused

-- the words w hold the freed trees, linked from h on
abbrev pub Frees : List ℕ → ℕ → List Tree → Type 0
Frees w h [] = h ≡ 0
Frees w h (t ∷ ts) = (0 < h) × Rep w h t × Frees w (at w h link_word) ts

-- the words w hold the store
pub record Pooled (w : List ℕ) (P : Pool) : Type 0 where
  pub free : Frees w (at w 0 free_word) P.trees
  pub fresh : at w 0 unused_word ≡ P.fresh
  pub some : 0 < P.fresh
  pub within : stride * (P.fresh + P.unused) ≤ length w

-- the store with the trees of a list more
abbrev pub add : Tree → Pool → Pool
add nil P = P
add (node p s k n) P = record { trees = node p s k n ∷ P.trees; fresh = P.fresh; unused = P.unused }

-- the words with the trees at x on the free list
unfoldable pub pushed : List ℕ → ℕ → List ℕ
pushed w x = cond (eqb x 0) w (poke (poke w x link_word (at w 0 free_word)) 0 free_word x)

-- with node x alone on the free list
unfoldable pub dropped : List ℕ → ℕ → List ℕ
dropped w x = pushed (poke (poke w x child_word 0) x next_word 0) x

-- with the first free tree's root off the list, its children and the trees beside it on it
unfoldable pub popped : List ℕ → List ℕ
popped w = let h = at w 0 free_word in pushed (pushed (poke w 0 free_word (at w h link_word)) (at w h child_word)) (at w h next_word)
