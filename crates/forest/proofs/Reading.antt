-- The room with the empty forest; the forest that is held is a function of the words, and so is whether it has a tree.
use mathlib.Core.Path.{◌≡◌, ◌∙◌, refl, sym, ap}
use mathlib.Core.List.{List, []}
use Prim.Native.Nat.{ℕ, zero, suc, ◌*◌, ◌≤◌}
use native.Mathlib.Omega.{arith}
use borrow.Author.Tests.{eq-eqb, ne_eqb, le-ltb}
use lib.Dec.{eqb}
use lib.ListN.{length}
use Rattle.theory.specs.Forest.{Forest, nothing, tree}
use Rattle.theory.specs.Forest.Joins.{is_none}
use Rattle.forest.specs.Words.{stride, max_words, at, poke, poke-len, at_same, at_other}
use Rattle.forest.specs.Trees.{Tree, nil, node, erase, size, Rep}
use Rattle.forest.specs.Held.{Held, Becomes}
use Rattle.forest.specs.Starts.{opened, emptied, forest_at, forest_of}
use Rattle.forest.proofs.Holding.{held_total, beyond_poke, beyond_then}

-- ---- the empty forest

-- after the first store, the second and the third
abbrev a : List ℕ → List ℕ
a w = poke w 0 0 1

-- after the second
abbrev b : List ℕ → List ℕ
b w = poke (a w) 0 1 0

-- after the third
abbrev c : List ℕ → List ℕ
c w = poke (b w) 0 2 0

-- after all four the room holds the empty forest
open_held : (w : List ℕ) (C : ℕ) → stride * suc C ≤ length w → length w ≤ max_words → Held (opened w) C nothing
open_held w C h m =
    let ea = poke-len w 0 0 1 in
    let eb = poke-len (a w) 0 1 0 in
    let ec = poke-len (b w) 0 2 0 in
    let ed = poke-len (c w) 0 3 0 in
    record {
      tree = nil;
      P = record { trees = []; fresh = 1; unused = C };
      rep = at_other (c w) 0 3 0 0 1 (omega arith) (omega arith) (λ i j. omega arith)
          ∙ at_other (b w) 0 2 0 0 1 (omega arith) (omega arith) (λ i j. omega arith)
          ∙ at_same (a w) 0 1 0 (omega arith) (omega arith);
      is = refl;
      pool = record {
        free = at_same (c w) 0 3 0 (omega arith) (omega arith);
        fresh = at_other (c w) 0 3 0 0 0 (omega arith) (omega arith) (λ i j. omega arith)
            ∙ at_other (b w) 0 2 0 0 0 (omega arith) (omega arith) (λ i j. omega arith)
            ∙ at_other (a w) 0 1 0 0 0 (omega arith) (omega arith) (λ i j. omega arith)
            ∙ at_same w 0 0 1 (omega arith) (omega arith);
        some = omega arith;
        within = omega arith;
      };
      whole = λ k. omega arith;
      fits = omega arith;
      aside = at_other (c w) 0 3 0 0 2 (omega arith) (omega arith) (λ i j. omega arith) ∙ at_same (b w) 0 2 0 (omega arith) (omega arith);
      words = omega arith;
    }

-- a room with so many nodes holds it
pub emptied-held : (w : List ℕ) (C : ℕ) → stride * suc C ≤ length w → length w ≤ max_words → Becomes w (emptied w) C nothing
unfolding emptied
emptied-held w C h m = simp (le-ltb (length w) stride (omega arith)) (record {
  held = open_held w C h m;
  beyond = beyond_then w (a w) (opened w) C (beyond_poke w C 0 1 (omega arith)) (beyond_then (a w) (b w) (opened w) C (beyond_poke (a w) C 1 0 (omega arith))
      (beyond_then (b w) (c w) (opened w) C (beyond_poke (b w) C 2 0 (omega arith)) (beyond_poke (c w) C 3 0 (omega arith))));
})

-- ---- the forest, read off

read_none : (k : ℕ) (w : List ℕ) (x : ℕ) → x ≡ 0 → forest_at k w x ≡ nothing
unfolding forest_at
read_none zero w x e = refl
read_none (suc k) w x e = simp (eq-eqb x 0 e)

-- at a node its tree
read_node : (k : ℕ) (w : List ℕ) (x : ℕ) → (x ≡ 0 → ⊥) → forest_at (suc k) w x ≡ tree (at w x 0) (forest_at k w (at w x 1)) (forest_at k w (at w x 2))
unfolding forest_at
read_node k w x h = simp (ne_eqb x 0 h)

-- at the place of some trees those trees
read : (t : Tree) (k : ℕ) (w : List ℕ) (x : ℕ) → Rep w x t → size t ≤ k → forest_at k w x ≡ erase t
read nil k w x r h = read_none k w x r
read (node p s a b) zero w x r h = absurd (omega arith)
read (node p s a b) (suc k) w x r h =
    let f = read a k w (at w p 1) r.kids (omega arith) in
    let g = read b k w (at w p 2) r.next (omega arith) in
    ap (λ (y : ℕ). forest_at (suc k) w y) r.is ∙ read_node k w p (λ z. omega (arith, r.live)) ∙ (λ i. tree (r.state i) (f i) (g i))

-- the forest that is held is the one that the words say
pub held_of : {w : List ℕ} {C : ℕ} {F : Forest} → Held w C F → forest_of w ≡ F
held_of {w} {C} {F} H = read H.tree (length w) w (at w 0 1) H.rep (omega (arith, held_total w C F H, H.fits)) ∙ H.is

-- so a room holds one forest
pub held_same : {w : List ℕ} {C C' : ℕ} {F F' : Forest} → Held w C F → Held w C' F' → F ≡ F'
held_same H H' = sym (held_of H) ∙ held_of H'

-- the word for the roots says whether there is none
pub held_none : {w : List ℕ} {C : ℕ} {F : Forest} → Held w C F → eqb (at w 0 1) 0 ≡ is_none F
held_none {w} {C} {F} H = go H.tree H.rep ∙ ap is_none H.is
  where
    go : (t : Tree) → Rep w (at w 0 1) t → eqb (at w 0 1) 0 ≡ is_none (erase t)
    go nil r = eq-eqb (at w 0 1) 0 r
    go (node p s k n) r = ne_eqb (at w 0 1) 0 (λ z. omega (arith, r.is, r.live))
