-- Trees that a room holds, each node with its place: a node, its children and the trees beside it. Without the places it is the theory's forest.
use Rattle.std.specs.Prelude.{◌≡◌, cond, List, ℕ, zero, suc, ◌+◌, ◌<◌, eqb, length}
use Rattle.theory.specs.Forest.{Forest, nothing, tree}
use Rattle.forest.specs.Words.{state_word, child_word, next_word, at, Inside}

-- trees side by side: none, or a place, a state, the children and the trees beside
pub data Tree : Type 0 where
  nil : Tree
  node : ℕ → ℕ → Tree → Tree → Tree

-- the forest, its places forgotten
abbrev pub erase : Tree → Forest
erase nil = nothing
erase (node p s k n) = tree s (erase k) (erase n)

-- the weights of its places, summed
abbrev pub weigh : (ℕ → ℕ) → Tree → ℕ
weigh m nil = 0
weigh m (node p s k n) = m p + weigh m k + weigh m n

-- 1 at q only: weighed by it, a tree says how often q stands in it
unfoldable pub one : ℕ → ℕ → ℕ
one q p = cond (eqb q p) 1 0

-- 1 everywhere: weighed by it, a tree says how many nodes it has
abbrev pub each : ℕ → ℕ
each p = 1

-- how often a place stands in a tree
abbrev pub occ : ℕ → Tree → ℕ
occ q t = weigh (one q) t

-- how many nodes a tree has
abbrev pub size : Tree → ℕ
size t = weigh each t

-- x is the place of node p, whose words are in the room, which has the state s, and K and N hold
pub record Cell (w : List ℕ) (x p s : ℕ) (K N : Type 0) : Type 0 where
  pub is : x ≡ p
  pub live : 0 < p
  pub inside : Inside w p
  pub state : at w p state_word ≡ s
  pub kids : K
  pub next : N

-- the words w hold the trees at the place x
abbrev pub Rep : List ℕ → ℕ → Tree → Type 0
Rep w x nil = x ≡ 0
Rep w x (node p s k n) = Cell w x p s (Rep w (at w p child_word) k) (Rep w (at w p next_word) n)

-- the nodes at x, as far as k links down: a number made of the words alone
unfoldable pub size_at : ℕ → List ℕ → ℕ → ℕ
size_at zero w x = 0
size_at (suc k) w x = cond (eqb x 0) 0 (1 + size_at k w (at w x child_word) + size_at k w (at w x next_word))

-- the live nodes at x: the falling number of the functions that walk trees
abbrev pub live : List ℕ → ℕ → ℕ
live w x = size_at (length w) w x
