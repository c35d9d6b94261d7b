-- The words of a room, as a list. Node q has its words at stride · q: its state, its first child, the next node beside it, and the next free
-- tree if it is the root of one. Node 0 is no node. Its words are the store's: the first node never used, the first root, the first of some
-- trees set aside, the first free tree.
use Rattle.std.specs.Prelude.{◌≡◌, List, ℕ, ◌+◌, ◌*◌, ◌<◌, length, get_or, set}
use Rattle.std.proofs.Common.{arith, length-set, get_or-set_same, get_or-set_other}
use Rattle.lines.specs.Limits.{max_states, max_tail}
pub use Rattle.lines.specs.Limits.{stride}

-- the largest room that a judgement uses
abbrev pub max_words : ℕ
max_words = stride * (max_states * (max_tail + 2))

-- a node's words: its state
abbrev pub state_word : ℕ
state_word = 0

-- its first child
abbrev pub child_word : ℕ
child_word = 1

-- the next node beside it
abbrev pub next_word : ℕ
next_word = 2

-- the next free tree, at the root of a free tree
abbrev pub link_word : ℕ
link_word = 3

-- node 0's words: the first node never used
abbrev pub unused_word : ℕ
unused_word = 0

-- the first root
abbrev pub roots_word : ℕ
roots_word = 1

-- the first of the trees set aside
abbrev pub aside_word : ℕ
aside_word = 2

-- the first free tree
abbrev pub free_word : ℕ
free_word = 3

-- word i of node q
unfoldable pub at : List ℕ → ℕ → ℕ → ℕ
at w q i = get_or w (stride * q + i) 0

-- word i of node q becomes v
unfoldable pub poke : List ℕ → ℕ → ℕ → ℕ → List ℕ
poke w q i v = set w (stride * q + i) v

-- node q's words are in the room
abbrev pub Inside : List ℕ → ℕ → Type 0
Inside w q = stride * q + 3 < length w

-- a store keeps the room's length
pub poke-len : (w : List ℕ) (q i v : ℕ) → length (poke w q i v) ≡ length w
unfolding poke
poke-len w q i v = length-set w (stride * q + i) v

-- the word that is stored is there
pub at_same : (w : List ℕ) (q i v : ℕ) → i < 4 → Inside w q → at (poke w q i v) q i ≡ v
unfolding poke at
at_same w q i v h g = get_or-set_same w (stride * q + i) v 0 (omega arith)

-- the others are as they were
pub at_other : (w : List ℕ) (p i v q j : ℕ) → i < 4 → j < stride → (q ≡ p → j ≡ i → ⊥) → at (poke w p i v) q j ≡ at w q j
unfolding poke at
at_other w p i v q j h g n =
    get_or-set_other w (stride * p + i) (stride * q + j) v 0 (λ e. n (omega arith) (omega arith))
