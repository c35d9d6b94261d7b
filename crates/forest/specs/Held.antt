-- The room as the steps see it: it holds a forest, and has so many nodes in all. Places are hidden, but for that of a tree that was chosen.
use Rattle.std.specs.Prelude.{◌≡◌, Bool, cond, List, ℕ, suc, ◌+◌, ◌*◌, ◌≤◌, ◌<◌, length}
use Rattle.theory.specs.Table.{Table}
use Rattle.theory.specs.Forest as Of
use Rattle.theory.specs.Forest.{Forest, nothing, join, grow, shift, short, Rising}
use Rattle.theory.specs.Forest.Sizes.{inner}
use Rattle.forest.specs.Words.{stride, roots_word, aside_word, at, poke, max_words}
use Rattle.forest.specs.Trees.{Tree, erase, weigh, Rep}
use Rattle.forest.specs.Pools.{Pool, run, pooled, Pooled}
use Rattle.forest.specs.Rows.{meant, Row}
use Rattle.forest.specs.Joins.{Joins}
use Rattle.forest.specs.Longs.{leaves}

-- The room holds F. Its nodes are 1 to C, and each of them is in the forest, freed or never used, and that once.
pub record Held (w : List ℕ) (C : ℕ) (F : Forest) : Type 0 where
  pub tree : Tree
  pub P : Pool
  pub rep : Rep w (at w 0 roots_word) tree
  pub is : erase tree ≡ F
  pub pool : Pooled w P
  pub whole : (m : ℕ → ℕ) → weigh m tree + pooled m P ≡ run m 1 C
  pub fits : stride * suc C ≤ length w
  pub aside : at w 0 aside_word ≡ 0
  pub words : length w ≤ max_words

-- The room holds F, and G besides, at p.
pub record Split (w : List ℕ) (C p : ℕ) (G F : Forest) : Type 0 where
  pub tree : Tree
  pub roots : Tree
  pub P : Pool
  pub rep : Rep w p tree
  pub is : erase tree ≡ G
  pub rep_roots : Rep w (at w 0 roots_word) roots
  pub is_roots : erase roots ≡ F
  pub pool : Pooled w P
  pub whole : (m : ℕ → ℕ) → weigh m tree + weigh m roots + pooled m P ≡ run m 1 C
  pub fits : stride * suc C ≤ length w
  pub aside : at w 0 aside_word ≡ 0
  pub words : length w ≤ max_words

-- no word of a node above C has changed
abbrev pub Beyond : List ℕ → List ℕ → ℕ → Type 0
Beyond w v C = (q i : ℕ) → C < q → i < stride → at v q i ≡ at w q i

-- the room has come to hold F with its C nodes, and no other node has changed
pub record Becomes (w v : List ℕ) (C : ℕ) (F : Forest) : Type 0 where
  pub held : Held v C F
  pub beyond : Beyond w v C

-- ---- the shift phase

-- the row is that of the token, and there are nodes enough
pub record CanShift (row : List ℕ) (C m : ℕ) (t : Table) (y : ℕ) (F : Forest) : Type 0 where
  pub goes : Row row m t y
  pub rising : Rising m F
  pub room : Of.size F + m < C

-- the room holds some forest that can be shifted so
pub record SomeShift (w row : List ℕ) : Type 0 where
  pub C : ℕ
  pub m : ℕ
  pub t : Table
  pub y : ℕ
  pub F : Forest
  pub held : Held w C F
  pub can : CanShift row C m t y F

-- whatever forest it held, it holds its shift
abbrev pub Shifts : List ℕ → List ℕ → List ℕ → Type 0
Shifts w row v = (C m : ℕ) (t : Table) (y : ℕ) (F : Forest) → Held w C F → CanShift row C m t y F → Becomes w v C (shift t y F)

-- ---- the row's one-node trees added

-- the room holds some forest, and has nodes enough
pub record SomeExtend (w row : List ℕ) : Type 0 where
  pub C : ℕ
  pub F : Forest
  pub held : Held w C F
  pub room : Of.size F + length row ≤ C

-- whatever forest it held, it holds that merged with G
abbrev pub Merges : List ℕ → List ℕ → Forest → List ℕ → Type 0
Merges w row G v = (C : ℕ) (F : Forest) → Held w C F → Of.size F + length row ≤ C → Becomes w v C (join F G)

-- that with the row's one-node trees
abbrev pub Extends : List ℕ → List ℕ → List ℕ → Type 0
Extends w row v = Merges w row (leaves (meant row) 0 (length row)) v

-- the trees set aside were merged with the roots, and none is set aside
abbrev pub Settles : List ℕ → List ℕ → Type 0
Settles w v = (u : List ℕ) × Joins w 0 roots_word (at w 0 roots_word) (at w 0 aside_word) u × (v ≡ poke u 0 aside_word 0)

-- ---- a reduction

-- the row is that of the rule's left side, and there are nodes enough
pub record CanReduce (row : List ℕ) (C m : ℕ) (t : Table) (y : ℕ) (G F : Forest) : Type 0 where
  pub goes : Row row m t y
  pub rising : Rising m G
  pub rising_roots : Rising m F
  pub some : 0 < length row
  pub room : inner F + Of.size G + m + length row ≤ C

-- some tree at p and some forest can be reduced so
pub record SomeReduce (w row : List ℕ) (p : ℕ) : Type 0 where
  pub C : ℕ
  pub m : ℕ
  pub t : Table
  pub y : ℕ
  pub G : Forest
  pub F : Forest
  pub split : Split w C p G F
  pub can : CanReduce row C m t y G F

-- the forest after it: what is grown, and if a path is short the row's one-node trees, where they are to be added
abbrev pub after : List ℕ → Table → ℕ → ℕ → Bool → Forest → Forest → Forest
after row t y d add G F =
    let grown = grow t y d G F in
    cond (short d G) (join grown (cond add (leaves (meant row) 0 (length row)) nothing)) grown

-- whatever tree and forest it held: it holds the forest after the reduction, and the answer is whether that was long
abbrev pub ReducesOne : List ℕ → List ℕ → ℕ → ℕ → Bool → List ℕ → Bool → Type 0
ReducesOne w row d p add v r =
    (C m : ℕ) (t : Table) (y : ℕ) (G F : Forest) → Split w C p G F → CanReduce row C m t y G F →
    (r ≡ short d G) × Becomes w v C (after row t y d add G F)
