-- A node alone goes to the pool; the children of two nodes. Assumes nothing.
use mathlib.Core.Path.{◌≡◌, ◌∙◌, refl, sym, subst}
use mathlib.Core.List.{List}
use Prim.Native.Nat.{ℕ, ◌+◌, ◌<◌, ◌≤◌}
use native.Mathlib.Omega.{arith}
use lib.ListN.{length}
use Rattle.theory.specs.Forest.{nothing, join, meet}
use Rattle.forest.specs.Words.{stride, at, poke, Inside, poke-len, at_same, at_other}
use Rattle.forest.specs.Trees.{Tree, nil, node, erase, weigh, one, occ, Rep}
use Rattle.forest.specs.Pools.{Pool, pooled, Pooled, add, pushed, dropped}
use Rattle.forest.specs.Joins.{Two, Joined, Joins, Pair, Met, Meets}
use Rattle.forest.proofs.Frame.{one-self, frame, differ, still, pool_still}
use Rattle.forest.proofs.Freeing.{add-weight, push_kept, push_len, push_pool, push_off}

-- node b as a tree of its own
abbrev pub lone : List ℕ → ℕ → Tree
lone w b = node b (at w b 0) nil nil

module _ (w : List ℕ) (b : ℕ) where
  -- freeing a node keeps the length
  pub drop_len : length (dropped w b) ≡ length w
  unfolding dropped
  drop_len = push_len (poke (poke w b 1 0) b 2 0) b ∙ poke-len (poke w b 1 0) b 2 0 ∙ poke-len w b 1 0

  -- no word of another node changes, but node 0's last
  pub drop_kept : (q i : ℕ) → i < stride → (q ≡ b → ⊥) → (q ≡ 0 → i ≡ 3 → ⊥) → at (dropped w b) q i ≡ at w q i
  unfolding dropped
  drop_kept q i h n m =
      push_kept (poke (poke w b 1 0) b 2 0) b q i h (λ e z. n e) m
      ∙ at_other (poke w b 1 0) b 2 0 q i (omega arith) h (λ e z. n e)
      ∙ at_other w b 1 0 q i (omega arith) h (λ e z. n e)

  -- a tree without the freed node stays
  pub drop_rep : (t : Tree) (x : ℕ) → occ b t ≡ 0 → Rep w x t → Rep (dropped w b) x t
  drop_rep t x z r =
      frame w (dropped w b) t x drop_len
      (λ q o i l. drop_kept q i (omega arith) (λ e. differ b q (λ m. weigh m t) z o e) (λ e u. omega arith)) r

  -- THE LAW of a drop
  pub drop_pool : (P : Pool) → 0 < b → Inside w b → Pooled w P → ((q : ℕ) → one q b + pooled (one q) P ≤ 1) → Pooled (dropped w b) (add (lone w b) P)
  unfolding dropped
  drop_pool P l g o h =
      let v₁ = poke w b 1 0 in
      let v₂ = poke v₁ b 2 0 in
      let z : pooled (one b) P ≡ 0 = omega (arith, h b, one-self b) in
      let in₁ : Inside v₁ b = omega (arith, poke-len w b 1 0) in
      push_pool v₂ b (lone w b) P
      (record {
        is = refl;
        live = l;
        inside = omega (arith, in₁, poke-len v₁ b 2 0);
        state = at_other v₁ b 2 0 b 0 (omega arith) (omega arith) (λ e u. omega arith) ∙ at_other w b 1 0 b 0 (omega arith) (omega arith) (λ e u. omega arith);
        kids = at_other v₁ b 2 0 b 1 (omega arith) (omega arith) (λ e u. omega arith) ∙ at_same w b 1 0 (omega arith) g;
        next = at_same v₁ b 2 0 (omega arith) in₁;
      })
      (pool_still v₁ b 2 0 P (omega arith) (omega arith) z (pool_still w b 1 0 P (omega arith) (omega arith) z o))
      (λ q. omega (arith, h q))

-- ---- the children of two nodes
module _ (w : List ℕ) (a b : ℕ) where
  -- the words when b is free
  abbrev v : List ℕ
  v = dropped w b

  module _ (k k' : Tree) (P : Pool) (T : Pair w a b k k' P) where
    -- the store when b is in it
    abbrev P₁ : Pool
    P₁ = add (lone w b) P

    -- the words hold that store
    pool₁ : Pooled v P₁
    pool₁ = drop_pool w b P T.live_b T.inside_b T.pool (λ q. omega (arith, T.once q))

    -- a's children are still there
    first₁ : Rep v (at w a 1) k
    first₁ = drop_rep w b k (at w a 1) (omega (arith, T.once b, one-self b)) T.first

    -- and b's
    second₁ : Rep v (at w b 1) k'
    second₁ = drop_rep w b k' (at w b 1) (omega (arith, T.once b, one-self b)) T.second

    -- both lists stand ready to be joined below a
    pub both_two : Two v a 1 (at w a 1) (at w b 1) k k' P₁
    both_two =
        record {
          first = first₁;
          second = second₁;
          pool = pool₁;
          once = λ q. omega (arith, T.once q);
          apart = omega (arith, T.apart);
          inside = omega (arith, T.inside, drop_len w b);
          link = (omega arith, omega arith);
          fits = omega (arith, T.fits, drop_len w b);
          words = omega (arith, T.words, drop_len w b);
        }

    -- an untouched node is not b
    not_b : (q : ℕ) → occ q k + occ q k' + pooled (one q) P + one q b ≡ 0 → q ≡ b → ⊥
    not_b q h e = let o : one q b ≡ 1 = subst (λ (y : ℕ). one q y ≡ 1) e (one-self q) in omega arith

    -- freeing b has changed no untouched node
    v_kept : (q i : ℕ) → i < stride → occ q k + occ q k' + pooled (one q) P + one q b ≡ 0 → (q ≡ 0 → (1 ≤ i) × (i ≤ 2)) → at v q i ≡ at w q i
    v_kept q i l h n = drop_kept w b q i l (not_b q h) (λ e u. let z = n e in omega arith)

    -- the join of both lists is what nodes with children leave
    pub both_end : (u : List ℕ) → meet (erase k) (erase k') (join (erase k) (erase k')) ≡ join (erase k) (erase k') → Joined v u a 1 k k' P₁ → Met w u a b k k' P
    both_end u e J =
        record {
          tree = J.tree;
          left = J.left;
          rep = J.rep;
          means = J.means ∙ sym e;
          pool = J.pool;
          weight = λ m. omega (arith, J.weight m);
          kept = λ q i l h n o. J.kept q i l (omega arith) n o ∙ v_kept q i l h o;
          len = J.len ∙ drop_len w b;
        }

    -- where one has no children, the other's go: t at x is what is left of both
    none_end : (u : List ℕ) (x : ℕ) (t : Tree) → Rep u x t → Pooled u P₁ → at u a 1 ≡ 0 → length u ≡ length w →
        ((q i : ℕ) → i < stride → occ q k + occ q k' + pooled (one q) P + one q b ≡ 0 → (q ≡ a → i ≡ 1 → ⊥) → (q ≡ 0 → (1 ≤ i) × (i ≤ 2)) → at u q i ≡ at w q i) →
        ((m : ℕ → ℕ) → weigh m t ≡ weigh m k + weigh m k') → nothing ≡ meet (erase k) (erase k') (join (erase k) (erase k')) → Met w (pushed u x) a b k k' P
    none_end u x t r o z e before all is =
        record {
          tree = nil;
          left = add t P₁;
          rep = push_kept u x a 1 (omega arith) (λ i j. omega arith) (λ i j. omega arith) ∙ z;
          means = is;
          pool = push_pool u x t P₁ r o (λ q. omega (arith, T.once q, all (one q)));
          weight = λ m. omega (arith, add-weight m t P₁, all m);
          kept = λ q i l h n y. push_off u x t r q i l (omega (arith, all (one q))) y ∙ before q i l h n y;
          len = push_len u x ∙ e;
        }

  -- a has no children: those of b go
  pub left_meets : at w a 1 ≡ 0 → Meets w a b (pushed v (at w b 1))
  unfolding meet
  left_meets z nil k' P T =
      none_end nil k' P T v (at w b 1) k' (second₁ nil k' P T) (pool₁ nil k' P T)
      (v_kept nil k' P T a 1 (omega arith) T.apart (λ i. (omega arith, omega arith)) ∙ z) (drop_len w b)
      (λ q i l h n y. v_kept nil k' P T q i l h y) (λ m. omega arith) refl
  left_meets z (node p s c n) k' P T = absurd (omega (arith, T.first.is, T.first.live))

  -- b has no children, seen at the trees: those of a go
  right_meets_at : (k : Tree) (P : Pool) → Pair w a b k nil P → nothing ≡ meet (erase k) nothing (join (erase k) nothing) → Met w (pushed (poke v a 1 0) (at w a 1)) a b k nil P
  right_meets_at k P T e =
      none_end k nil P T (poke v a 1 0) (at w a 1) k
      (still v a 1 0 k (at w a 1) (omega arith) (omega (arith, T.apart)) (first₁ k nil P T))
      (pool_still v a 1 0 (add (lone w b) P) (omega arith) (omega arith) (omega (arith, T.apart)) (pool₁ k nil P T))
      (at_same v a 1 0 (omega arith) (omega (arith, T.inside, drop_len w b)))
      (poke-len v a 1 0 ∙ drop_len w b)
      (λ q i l h n y. at_other v a 1 0 q i (omega arith) l n ∙ v_kept k nil P T q i l h y)
      (λ m. omega arith) e

  -- b has no children: those of a go
  pub right_meets : at w b 1 ≡ 0 → Meets w a b (pushed (poke v a 1 0) (at w a 1))
  unfolding meet
  right_meets z nil nil P T = right_meets_at nil P T refl
  right_meets z (node p s c n) nil P T = right_meets_at (node p s c n) P T refl
  right_meets z k (node p s c n) P T = absurd (omega (arith, T.second.is, T.second.live))

  -- both have children: they are joined
  pub both_meets : (at w a 1 ≡ 0 → ⊥) → (at w b 1 ≡ 0 → ⊥) → (u : List ℕ) → Joins v a 1 (at w a 1) (at w b 1) u → Meets w a b u
  unfolding meet
  both_meets h g u J nil k' P T = absurd (h T.first)
  both_meets h g u J (node p s c n) nil P T = absurd (g T.second)
  both_meets h g u J (node p s c n) (node p' s' c' n') P T =
      both_end (node p s c n) (node p' s' c' n') P T u refl (J (node p s c n) (node p' s' c' n') (add (lone w b) P) (both_two (node p s c n) (node p' s' c' n') P T))
