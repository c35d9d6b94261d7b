-- A tree goes to the pool. Assumes nothing.
use mathlib.Core.Path.{◌≡◌, ◌∙◌, refl, sym, subst}
use mathlib.Core.List.{List, ◌∷◌}
use Prim.Native.Nat.{ℕ, ◌+◌, ◌<◌, ◌≤◌}
use native.Mathlib.Omega.{arith}
use borrow.Author.Tests.{eq-eqb, ne_eqb}
use lib.ListN.{length}
use Rattle.forest.specs.Words.{stride, at, poke, Inside, poke-len, at_same, at_other}
use Rattle.forest.specs.Trees.{Tree, nil, node, weigh, one, occ, Rep}
use Rattle.forest.specs.Pools.{Pool, weighs, pooled, Frees, Pooled, add, pushed}
use Rattle.forest.proofs.Frame.{one-self, frame, frames, no_zero}

-- nothing is freed at no node
pub push_none : (w : List ℕ) (x : ℕ) → x ≡ 0 → pushed w x ≡ w
unfolding pushed
push_none w x e = simp (eq-eqb x 0 e)

-- what is written when a tree is freed
pub push_some : (w : List ℕ) (x : ℕ) → (x ≡ 0 → ⊥) → pushed w x ≡ poke (poke w x 3 (at w 0 3)) 0 3 x
unfolding pushed
push_some w x e = simp (ne_eqb x 0 e)

-- the store weighs a tree more
pub add-weight : (m : ℕ → ℕ) (t : Tree) (P : Pool) → pooled m (add t P) ≡ weigh m t + pooled m P
add-weight m nil P = omega arith
add-weight m (node p s k n) P = omega arith

module _ (w : List ℕ) (x : ℕ) where
  -- no word changes but x's free link and node 0's
  pub push_kept : (q i : ℕ) → i < stride → (q ≡ x → i ≡ 3 → ⊥) → (q ≡ 0 → i ≡ 3 → ⊥) → at (pushed w x) q i ≡ at w q i
  push_kept q i l h g = go (native.Mathlib.Decide.ℕ_discrete x 0)
    where
      go : Dec (x ≡ 0) → at (pushed w x) q i ≡ at w q i
      go (yes e) = rw (push_none w x e)
      go (no n) = rw (push_some w x n) (at_other (poke w x 3 (at w 0 3)) 0 3 x q i (omega arith) l g ∙ at_other w x 3 (at w 0 3) q i (omega arith) l h)

  -- freeing keeps the length
  pub push_len : length (pushed w x) ≡ length w
  push_len = go (native.Mathlib.Decide.ℕ_discrete x 0)
    where
      go : Dec (x ≡ 0) → length (pushed w x) ≡ length w
      go (yes e) = rw (push_none w x e)
      go (no n) = rw (push_some w x n) (poke-len (poke w x 3 (at w 0 3)) 0 3 x ∙ poke-len w x 3 (at w 0 3))

  -- every tree stays
  pub push_rep : (t : Tree) (y : ℕ) → Rep w y t → Rep (pushed w x) y t
  push_rep t y r = frame w (pushed w x) t y push_len (λ q h i l. push_kept q i (omega arith) (λ e u. omega arith) (λ e u. omega arith)) r

-- a tree with a root goes into the store
push_node : (w : List ℕ) (p s : ℕ) (k n : Tree) (P : Pool) → Rep w p (node p s k n) → Pooled w P → pooled (one p) P ≡ 0 →
    Pooled (pushed w p) (add (node p s k n) P)
push_node w p s k n P r o h =
    let v = poke w p 3 (at w 0 3) in
    let n0 : p ≡ 0 → ⊥ = λ e. omega (arith, r.live) in
    let e = push_some w p n0 in
    let in0 : Inside v 0 = omega (arith, poke-len w p 3 (at w 0 3), r.inside) in
    let head : at (pushed w p) 0 3 ≡ p = rw e (at_same v 0 3 p (omega arith) in0) in
    let link : at (pushed w p) p 3 ≡ at w 0 3 = rw e (at_other v 0 3 p p 3 (omega arith) (omega arith) (λ z u. n0 z) ∙ at_same w p 3 (at w 0 3) (omega arith) r.inside) in
    record {
      free =
          subst (λ (y : ℕ). Frees (pushed w p) y (node p s k n ∷ P.trees)) (sym head) (
            r.live,
            push_rep w p (node p s k n) p r,
            subst (λ (y : ℕ). Frees (pushed w p) y P.trees) (sym link)
                (frames w (pushed w p) P.trees (at w 0 3) (push_len w p)
                (λ q g i l. push_kept w p q i l (λ z u. one_more q z g) (λ z u. none_there q z g)) o.free),
          );
      fresh = push_kept w p 0 0 (omega arith) (λ z u. omega arith) (λ z u. omega arith) ∙ o.fresh;
      some = o.some;
      within = omega (arith, push_len w p, o.within);
    }
  where
    one_more : (q : ℕ) → q ≡ p → 0 < weighs (one q) P.trees → ⊥
    one_more q z g = let h' : 0 < weighs (one p) P.trees = rw z at g in omega arith

    none_there : (q : ℕ) → q ≡ 0 → 0 < weighs (one q) P.trees → ⊥
    none_there q z g = let h' : 0 < weighs (one 0) P.trees = rw z at g in omega (arith, no_zero w P.trees (at w 0 3) o.free)

-- THE LAW of a push
pub push_pool : (w : List ℕ) (x : ℕ) (t : Tree) (P : Pool) → Rep w x t → Pooled w P → ((q : ℕ) → occ q t + pooled (one q) P ≤ 1) →
    Pooled (pushed w x) (add t P)
push_pool w x nil P r o h = rw (push_none w x r) o
push_pool w x (node p s k n) P r o h =
    subst (λ (y : ℕ). Pooled (pushed w y) (add (node p s k n) P)) (sym r.is)
    (push_node w p s k n P (record { is = refl; live = r.live; inside = r.inside; state = r.state; kids = r.kids; next = r.next }) o
    (omega (arith, h p, one-self p)))

-- no word of a node outside the tree changes
pub push_off : (w : List ℕ) (x : ℕ) (t : Tree) → Rep w x t → (q i : ℕ) → i < stride → occ q t ≡ 0 → (q ≡ 0 → (1 ≤ i) × (i ≤ 2)) → at (pushed w x) q i ≡ at w q i
push_off w x nil r q i l z o = rw (push_none w x r)
push_off w x (node p s k n) r q i l z o =
    push_kept w x q i l
    (λ e u. let y : one q p ≡ 1 = subst (λ (y : ℕ). one q y ≡ 1) (e ∙ r.is) (one-self q) in omega arith)
    (λ e u. let y = o e in omega arith)
