-- What stores elsewhere keep; the size of a tree by the words alone. Assumes nothing.
use mathlib.Core.Path.{◌≡◌, ◌∙◌, refl, sym, ap, subst}
use mathlib.Core.List.{List, [], ◌∷◌}
use Prim.Native.Nat.{ℕ, zero, suc, ◌+◌, ◌<◌, ◌≤◌}
use native.Mathlib.Omega.{arith}
use borrow.Author.Tests.{eq-eqb, ne_eqb}
use lib.ListN.{length}
use Rattle.forest.specs.Words.{stride, at, poke, poke-len, at_other}
use Rattle.forest.specs.Trees.{Tree, nil, node, weigh, one, occ, size, Rep, size_at, live}
use Rattle.forest.specs.Joins.{Kept}
use Rattle.forest.specs.Pools.{Pool, weighs, pooled, Frees, Pooled}

-- a place is one of itself
pub one-self : (q : ℕ) → one q q ≡ 1
unfolding one
one-self q = simp (eq-eqb q q refl)

-- and none of another
pub one-other : (q p : ℕ) → (q ≡ p → ⊥) → one q p ≡ 0
unfolding one
one-other q p h = simp (ne_eqb q p h)

-- node q's three words
abbrev pub Same : List ℕ → List ℕ → ℕ → Type 0
Same w v q = (i : ℕ) → i < 3 → at v q i ≡ at w q i

-- a tree stays where the words of its nodes stay
pub frame : (w v : List ℕ) (t : Tree) (x : ℕ) → length v ≡ length w → ((q : ℕ) → 0 < occ q t → Same w v q) → Rep w x t → Rep v x t
frame w v nil x e h r = r
frame w v (node p s k n) x e h r =
    let o = one-self p in
    let m = h p (omega arith) in
    record {
      is = r.is;
      live = r.live;
      inside = omega (arith, e, r.inside);
      state = m 0 (omega arith) ∙ r.state;
      kids = subst (λ (y : ℕ). Rep v y k) (sym (m 1 (omega arith))) (frame w v k (at w p 1) e (λ q i. h q (omega arith)) r.kids);
      next = subst (λ (y : ℕ). Rep v y n) (sym (m 2 (omega arith))) (frame w v n (at w p 2) e (λ q i. h q (omega arith)) r.next);
    }

-- a tree has no place 0
pub not_none : (w : List ℕ) (t : Tree) (x : ℕ) → Rep w x t → occ 0 t ≡ 0
not_none w nil x r = refl
not_none w (node p s k n) x r =
    omega (arith, one-other 0 p (λ e. omega (arith, r.live)), not_none w k (at w p 1) r.kids, not_none w n (at w p 2) r.next)

-- the root of a tree is a place of it
pub has_root : (w : List ℕ) (t : Tree) (x : ℕ) → Rep w x t → 0 < x → 0 < occ x t
has_root w nil x r h = absurd (omega arith)
has_root w (node p s k n) x r h = subst (λ (y : ℕ). 0 < occ y (node p s k n)) (sym r.is) (omega (arith, one-self p))

-- nor has the free list
pub no_zero : (w : List ℕ) (ts : List Tree) (y : ℕ) → Frees w y ts → weighs (one 0) ts ≡ 0
no_zero w [] y f = refl
no_zero w (t ∷ ts) y (a, b, c) = omega (arith, not_none w t y b, no_zero w ts (at w y 3) c)

-- so does the list of free trees
pub frames : (w v : List ℕ) (ts : List Tree) (h : ℕ) → length v ≡ length w → ((q : ℕ) → 0 < weighs (one q) ts → (i : ℕ) → i < stride → at v q i ≡ at w q i) →
    Frees w h ts → Frees v h ts
frames w v [] h e k r = r
frames w v (t ∷ ts) h e k (l, r, rest) = (
  l,
  frame w v t h e (λ q g i j. k q (omega arith) i (omega arith)) r,
  subst (λ (y : ℕ). Frees v y ts) (sym (k h (omega (arith, has_root w t h r l)) 3 (omega arith)))
      (frames w v ts (at w h 3) e (λ q g. k q (omega arith)) rest),
)

-- so does the store, with its two words of node 0
pub pool_frame : (w v : List ℕ) (P : Pool) → length v ≡ length w →
    ((q : ℕ) → 0 < pooled (one q) P → (i : ℕ) → i < stride → at v q i ≡ at w q i) → at v 0 3 ≡ at w 0 3 → at v 0 0 ≡ at w 0 0 → Pooled w P → Pooled v P
pool_frame w v P e k a b r =
    record {
      free = subst (λ (h : ℕ). Frees v h P.trees) (sym a) (frames w v P.trees (at w 0 3) e (λ q g. k q (omega arith)) r.free);
      fresh = b ∙ r.fresh;
      some = r.some;
      within = omega (arith, e, r.within);
    }

-- ---- the nodes at a place, counted by the words alone
at_node : (k : ℕ) (w : List ℕ) (x : ℕ) → (x ≡ 0 → ⊥) → size_at (suc k) w x ≡ 1 + size_at k w (at w x 1) + size_at k w (at w x 2)
unfolding size_at
at_node k w x h = simp (ne_eqb x 0 h)

-- at no node there are none
at_none : (k : ℕ) (w : List ℕ) (x : ℕ) → x ≡ 0 → size_at k w x ≡ 0
unfolding size_at
at_none zero w x e = refl
at_none (suc k) w x e = simp (eq-eqb x 0 e)

-- at a tree there are as many as it has, if one looks down far enough
pub size-rep : (t : Tree) (k : ℕ) (w : List ℕ) (x : ℕ) → Rep w x t → size t ≤ k → size_at k w x ≡ size t
size-rep nil k w x r h = at_none k w x r
size-rep (node p s a b) zero w x r h = absurd (omega arith)
size-rep (node p s a b) (suc k) w x r h =
    let e = at_node k w p (λ z. omega (arith, r.live)) in
    let f = size-rep a k w (at w p 1) r.kids (omega arith) in
    let g = size-rep b k w (at w p 2) r.next (omega arith) in
    ap (λ (y : ℕ). size_at (suc k) w y) r.is ∙ omega arith

-- the live nodes at a tree are its own
pub live-rep : (t : Tree) (w : List ℕ) (x : ℕ) → Rep w x t → size t ≤ length w → live w x ≡ size t
live-rep t w x r h = size-rep t (length w) w x r h

-- a place that a weight function gives 0 is not one that it gives 1
pub differ : (d q : ℕ) (W : (ℕ → ℕ) → ℕ) → W (one d) ≡ 0 → 0 < W (one q) → q ≡ d → ⊥
differ d q W z h e = let h' : 0 < W (one d) = rw e at h in omega arith

-- a store to a node outside keeps a tree, and the pool
pub still : (w : List ℕ) (d j v : ℕ) (t : Tree) (x : ℕ) → j < 4 → occ d t ≡ 0 → Rep w x t → Rep (poke w d j v) x t
still w d j v t x l z r =
    frame w (poke w d j v) t x (poke-len w d j v) (λ q h i g. at_other w d j v q i l (omega arith) (λ e u. differ d q (λ m. weigh m t) z h e)) r

-- a store to a link of a node outside keeps the store
pub pool_still : (w : List ℕ) (d j v : ℕ) (P : Pool) → 1 ≤ j → j ≤ 2 → pooled (one d) P ≡ 0 → Pooled w P → Pooled (poke w d j v) P
pool_still w d j v P l m z o =
    pool_frame w (poke w d j v) P (poke-len w d j v)
    (λ q h i g. at_other w d j v q i (omega arith) g (λ e u. differ d q (λ m. pooled m P) z h e))
    (at_other w d j v 0 3 (omega arith) (omega arith) (λ e u. omega arith))
    (at_other w d j v 0 0 (omega arith) (omega arith) (λ e u. omega arith))
    o

-- a tree of which no place was touched stays
pub kept_rep : (w v : List ℕ) (d j : ℕ) (W : (ℕ → ℕ) → ℕ) → length v ≡ length w → Kept w v d j (λ q. W (one q)) →
    (t : Tree) (x : ℕ) → ((q : ℕ) → occ q t + W (one q) ≤ 1) → occ d t ≡ 0 → Rep w x t → Rep v x t
kept_rep w v d j W e K t x h z r =
    frame w v t x e
    (λ q o i l. K q i (omega arith) (omega (arith, h q)) (λ a b. differ d q (λ m. weigh m t) z o a)
    (λ a. absurd (differ 0 q (λ m. weigh m t) (not_none w t x r) o a))) r
