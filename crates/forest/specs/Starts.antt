-- The empty forest and the forest of the first token, in the room; the forest that a room holds, read off its words.
use Rattle.std.specs.Prelude.{◌≡◌, Bool, cond, List, ℕ, zero, suc, ◌*◌, ◌≤◌, ◌<◌, eqb, ltb, length}
use Rattle.theory.specs.Table.{Table, count}
use Rattle.theory.specs.Forest.{Forest, nothing, tree, long}
use Rattle.theory.specs.Forest.Joins.{is_none}
use Rattle.forest.specs.Words.{stride, max_words, state_word, child_word, next_word, unused_word, roots_word, aside_word, free_word, at, poke}
use Rattle.forest.specs.Rows.{Passing, GoRows}
use Rattle.forest.specs.Held.{Becomes}

-- the words with the empty forest: no roots, no freed trees, and every node from 1 on never used
abbrev pub opened : List ℕ → List ℕ
opened w = poke (poke (poke (poke w 0 unused_word 1) 0 roots_word 0) 0 aside_word 0) 0 free_word 0

-- the same where the room has a node's words; a smaller room stays as it is
unfoldable pub emptied : List ℕ → List ℕ
emptied w = cond (ltb (length w) stride) w (opened w)

-- the forest at x, as far as k links down
unfoldable pub forest_at : ℕ → List ℕ → ℕ → Forest
forest_at zero w x = nothing
forest_at (suc k) w x = cond (eqb x 0) nothing (tree (at w x state_word) (forest_at k w (at w x child_word)) (forest_at k w (at w x next_word)))

-- the forest that the words hold
abbrev pub forest_of : List ℕ → Forest
forest_of w = forest_at (length w) w (at w 0 roots_word)

-- the table passes, has m states and the go targets, the token is one of its kinds, and the room has nodes enough
pub record CanStart (w go : List ℕ) (C m : ℕ) (t : Table) (a : ℕ) : Type 0 where
  pub table : Passing m t
  pub goes : GoRows t go
  pub token : a < t.grammar.terms
  pub nodes : stride * suc C ≤ length w
  pub words : length w ≤ max_words
  pub room : count t ≤ C

-- for some table and some number of nodes
pub record SomeStart (w go : List ℕ) (m a : ℕ) : Type 0 where
  pub C : ℕ
  pub t : Table
  pub can : CanStart w go C m t a

-- the room holds the one-node trees of the first token, and it is told whether there are none; no step was made
pub record Started (w v : List ℕ) (C : ℕ) (t : Table) (a : ℕ) (empty : Bool) (steps : ℕ) : Type 0 where
  pub becomes : Becomes w v C (long t a)
  pub told : empty ≡ is_none (long t a)
  pub none_made : steps ≡ 0

-- whatever table has those go targets
abbrev pub Starts : List ℕ → List ℕ → ℕ → ℕ → List ℕ → Bool → ℕ → Type 0
Starts w go m a v empty steps = (C : ℕ) (t : Table) → CanStart w go C m t a → Started w v C t a empty steps
