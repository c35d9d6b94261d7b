-- A tree gets its go meant above it and is joined to the roots, or goes to the pool. Assumes nothing.
use mathlib.Core.Path.{◌≡◌, ◌∙◌, refl, sym, ap, subst, subst⁻¹}
use mathlib.Core.Option.{Option, none, some}
use mathlib.Core.List.{List}
use Prim.Native.Nat.{ℕ, zero, suc, ◌+◌, ◌-◌, ◌<◌, ◌≤◌}
use native.Mathlib.Omega.{arith}
use borrow.Author.Tests.{eq-eqb, ne_eqb}
use lib.ListN.{length, get_or}
use Rattle.theory.specs.Table.{Table, goto}
use Rattle.theory.specs.Forest.{Forest, nothing, tree, join, weave, grow}
use Rattle.theory.proofs.Forest.Counts.{width-rising}
use Rattle.forest.specs.Words.{stride, at, poke, Inside, poke-len, at_same, at_other}
use Rattle.forest.specs.Trees.{Tree, nil, node, erase, weigh, one, each, occ, Rep}
use Rattle.forest.specs.Pools.{Pool, run, pooled, Pooled, add, pushed}
use Rattle.forest.specs.Joins.{Two, SomeTwo, Joined, Joins}
use Rattle.forest.specs.Takes.{Left, SomeLeft, Took, Takes}
use Rattle.forest.specs.Grows.{Source, SomeSource, Grown, Grows, rooted}
use Rattle.forest.specs.Rows.{meant}
use Rattle.forest.proofs.Frame.{one-self, one-other, frame, not_none, differ, pool_frame, kept_rep, no_zero}
use Rattle.forest.proofs.Freeing.{add-weight, push_kept, push_len, push_rep, push_pool, push_off}
use Rattle.forest.proofs.Taking.{zero_in}

-- node 0 is none of the nodes never used
run-no_zero : (a k : ℕ) → 0 < a → run (one 0) a k ≡ 0
run-no_zero a zero h = refl
run-no_zero a (suc k) h = omega (arith, one-other 0 a (λ e. omega arith), run-no_zero (suc a) k (omega arith))

-- the pool has no place 0
pub pool_no_zero : (w : List ℕ) (P : Pool) → Pooled w P → pooled (one 0) P ≡ 0
pool_no_zero w P o = omega (arith, no_zero w P.trees (at w 0 3) o.free, run-no_zero P.fresh P.unused o.some)

-- a store to a node that is out of the pool keeps it
pool_still₀ : (w : List ℕ) (d j v : ℕ) (P : Pool) → j < 4 → 0 < d → pooled (one d) P ≡ 0 → Pooled w P → Pooled (poke w d j v) P
pool_still₀ w d j v P l m z o =
    pool_frame w (poke w d j v) P (poke-len w d j v)
    (λ q h i g. at_other w d j v q i l g (λ e u. differ d q (λ m. pooled m P) z h e))
    (at_other w d j v 0 3 l (omega arith) (λ e u. omega arith))
    (at_other w d j v 0 0 l (omega arith) (λ e u. omega arith))
    o

-- ---- a new root
module _ (w : List ℕ) (p s x : ℕ) where
  -- laying a root keeps the length
  pub root_len : length (rooted w p s x) ≡ length w
  unfolding rooted
  root_len = poke-len (poke (poke w p 0 s) p 1 x) p 2 0 ∙ poke-len (poke w p 0 s) p 1 x ∙ poke-len w p 0 s

  -- no other node changes
  pub root_kept : (q i : ℕ) → i < stride → (q ≡ p → ⊥) → at (rooted w p s x) q i ≡ at w q i
  unfolding rooted
  root_kept q i h n =
      at_other (poke (poke w p 0 s) p 1 x) p 2 0 q i (omega arith) h (λ e z. n e)
      ∙ at_other (poke w p 0 s) p 1 x q i (omega arith) h (λ e z. n e)
      ∙ at_other w p 0 s q i (omega arith) h (λ e z. n e)

  -- a tree without it stays
  pub root_rep : (t : Tree) (y : ℕ) → occ p t ≡ 0 → Rep w y t → Rep (rooted w p s x) y t
  root_rep t y z r = frame w (rooted w p s x) t y root_len (λ q o i l. root_kept q i (omega arith) (λ e. differ p q (λ m. weigh m t) z o e)) r

  -- the store stays
  pub root_pool : (P : Pool) → 0 < p → pooled (one p) P ≡ 0 → Pooled w P → Pooled (rooted w p s x) P
  unfolding rooted
  root_pool P l z o =
      pool_still₀ (poke (poke w p 0 s) p 1 x) p 2 0 P (omega arith) l z
      (pool_still₀ (poke w p 0 s) p 1 x P (omega arith) l z (pool_still₀ w p 0 s P (omega arith) l z o))

  -- the root's state
  pub state_of : Inside w p → at (rooted w p s x) p 0 ≡ s
  unfolding rooted
  state_of h =
      at_other (poke (poke w p 0 s) p 1 x) p 2 0 p 0 (omega arith) (omega arith) (λ e z. omega arith)
      ∙ at_other (poke w p 0 s) p 1 x p 0 (omega arith) (omega arith) (λ e z. omega arith)
      ∙ at_same w p 0 s (omega arith) h

  -- its first child
  child_of : Inside w p → at (rooted w p s x) p 1 ≡ x
  unfolding rooted
  child_of h =
      at_other (poke (poke w p 0 s) p 1 x) p 2 0 p 1 (omega arith) (omega arith) (λ e z. omega arith)
      ∙ at_same (poke w p 0 s) p 1 x (omega arith) (omega (arith, poke-len w p 0 s))

  -- nothing beside it
  next_of : Inside w p → at (rooted w p s x) p 2 ≡ 0
  unfolding rooted
  next_of h = at_same (poke (poke w p 0 s) p 1 x) p 2 0 (omega arith) (omega (arith, poke-len w p 0 s, poke-len (poke w p 0 s) p 1 x))

  -- THE LAW of a new root
  pub root_is : (t : Tree) → 0 < p → Inside w p → occ p t ≡ 0 → Rep w x t → Rep (rooted w p s x) p (node p s t nil)
  root_is t l h z r =
      record {
        is = refl;
        live = l;
        inside = omega (arith, root_len);
        state = state_of h;
        kids = subst⁻¹ (λ (y : ℕ). Rep (rooted w p s x) y t) (child_of h) (root_rep t x z r);
        next = next_of h;
      }

-- ---- meanings
pub join-nothing : (F : Forest) → join F nothing ≡ F
unfolding join weave
join-nothing nothing = refl
join-nothing (tree s k b) = refl

module _ (t : Table) (y s : ℕ) (k F : Forest) where
  -- without a target nothing is grown
  means_none : goto t s y ≡ none → F ≡ grow t y 0 (tree s k nothing) F
  unfolding grow
  means_none e = rw e (sym (join-nothing F))

  -- with one the tree under its new root is joined
  means_some : (u : ℕ) → goto t s y ≡ some u → join F (tree u (tree s k nothing) nothing) ≡ grow t y 0 (tree s k nothing) F
  unfolding grow
  means_some u e = rw e refl

-- an entry that is 0 means none
pub meant-none : (row : List ℕ) (s : ℕ) → get_or row s 0 ≡ 0 → meant row s ≡ none
unfolding meant
meant-none row s e = simp (eq-eqb (get_or row s 0) 0 e)

-- another means one less
pub meant-some : (row : List ℕ) (s u : ℕ) → get_or row s 0 ≡ u + 1 → meant row s ≡ some u
unfolding meant
meant-some row s u e =
    let less : get_or row s 0 - 1 ≡ u = omega arith in
    simp (ne_eqb (get_or row s 0) 0 (λ z. omega arith)) (ap {B = Option ℕ} some less)

-- ---- the two ways
module _ (w : List ℕ) (m a : ℕ) (f to : Tree) (P : Pool) (T : Source w m a f to P) where
  -- the store has a node
  pub spare : 0 < pooled each P
  spare = omega (arith, T.enough, width-rising m (erase to) T.rising_to)

  -- so one can be taken
  pub source_left : Left w P
  source_left = record { pool = T.pool; once = λ q. omega (arith, T.once q); some = spare; words = T.words }

  -- it goes
  gone : (t : Table) (y : ℕ) → erase to ≡ grow t y 0 (erase f) (erase to) → Grown w (pushed w a) t y 0 f to P
  gone t y e =
      record {
        tree = to;
        left = add f P;
        rep =
            subst⁻¹ (λ (z : ℕ). Rep (pushed w a) z to) (push_kept w a 0 1 (omega arith) (λ i j. omega arith) (λ i j. omega arith))
            (push_rep w a to (at w 0 1) T.roots);
        means = e;
        pool = push_pool w a f P T.source T.pool (λ q. omega (arith, T.once q));
        weight = λ m. omega (arith, add-weight m f P);
        kept = λ q i l h n o. push_off w a f T.source q i l (omega arith) o;
        len = push_len w a;
      }

  -- it grows
  module _ (v₁ : List ℕ) (p u : ℕ) (K : Took w v₁ p P) where
    -- the words with the new root
    abbrev v₂ : List ℕ
    v₂ = rooted v₁ p u a

    -- its place stands nowhere else
    off_p : occ p f + occ p to + pooled (one p) K.left ≡ 0
    off_p = omega (arith, T.once p, one-self p, K.weight (one p))

    -- node 0 is nowhere
    off_0 : occ 0 f + occ 0 to + pooled (one 0) P ≡ 0
    off_0 = omega (arith, not_none w f a T.source, not_none w to (at w 0 1) T.roots, pool_no_zero w P T.pool)

    -- it is not node 0
    p≢0 : 0 ≡ p → ⊥
    p≢0 e = omega (arith, K.live)

    -- the roots are where they were
    roots₁ : at v₁ 0 1 ≡ at w 0 1
    roots₁ = K.kept 0 1 (omega arith) (omega (arith, off_0)) (λ e z. omega arith) (λ e. (omega arith, omega arith))

    -- a tree stays when a node is taken
    stays : (t : Tree) (x : ℕ) → Rep w x t → ((q : ℕ) → occ q t + pooled (one q) P ≤ 1) → Rep v₁ x t
    stays t x r h = kept_rep w v₁ 0 3 (λ m. pooled m P) K.len K.kept t x h (not_none w t x r) r

    -- the roots and the new tree stand ready to be joined
    pub sprout_two : Two v₂ 0 1 (at v₂ 0 1) p to (node p u f nil) K.left
    sprout_two =
        let l = root_len v₁ p u a in
        record {
          first =
              subst⁻¹ (λ (z : ℕ). Rep v₂ z to) (root_kept v₁ p u a 0 1 (omega arith) p≢0 ∙ roots₁)
              (root_rep v₁ p u a to (at w 0 1) (omega (arith, off_p)) (stays to (at w 0 1) T.roots (λ q. omega (arith, T.once q))));
          second = root_is v₁ p u a f K.live K.inside (omega (arith, off_p)) (stays f a T.source (λ q. omega (arith, T.once q)));
          pool = root_pool v₁ p u a K.left K.live (omega (arith, off_p)) K.pool;
          once = λ q. omega (arith, T.once q, K.weight (one q));
          apart = omega (arith, off_0, K.weight (one 0));
          inside = omega (arith, l, K.len, zero_in T.pool);
          link = (omega arith, omega arith);
          fits = omega (arith, T.fits, K.weight each, l, K.len);
          words = omega (arith, T.words, l, K.len);
        }

    -- their join is what is grown
    pub grown : (t : Table) (y : ℕ) → join (erase to) (tree u (erase f) nothing) ≡ grow t y 0 (erase f) (erase to) → (v : List ℕ) →
        Joined v₂ v 0 1 to (node p u f nil) K.left → Grown w v t y 0 f to P
    grown t y e v J =
        record {
          tree = J.tree;
          left = J.left;
          rep = J.rep;
          means = J.means ∙ e;
          pool = J.pool;
          weight = λ m. omega (arith, J.weight m, K.weight m);
          kept =
              λ q i l h n o.
              J.kept q i l (omega (arith, K.weight (one q))) n o
              ∙ root_kept v₁ p u a q i l (λ z. not_p q h z)
              ∙ K.kept q i l (omega arith) (λ z x. let y = o z in omega arith) o;
          len = J.len ∙ root_len v₁ p u a ∙ K.len;
        }
      where
        not_p : (q : ℕ) → occ q f + occ q to + pooled (one q) P ≡ 0 → q ≡ p → ⊥
        not_p q h z = let o : one q p ≡ 1 = subst (λ (r : ℕ). one q r ≡ 1) z (one-self q) in omega (arith, K.weight (one q))

-- ---- as the code has them: the tree at a is alone
module _ (w row : List ℕ) (a : ℕ) (a≢ : a ≡ 0 → ⊥) (alone : at w a 2 ≡ 0) where
  -- what is shown of a node with nothing beside it
  only : (Q : Tree → Type 0) → ((p s : ℕ) (k : Tree) → at w a 0 ≡ s → Q (node p s k nil)) → (f : Tree) → Rep w a f → Q f
  only Q h nil r = absurd (a≢ r)
  only Q h (node p s k nil) r = h p s k (ap (λ (z : ℕ). at w z 0) r.is ∙ r.state)
  only Q h (node p s k (node p' s' k' n')) r =
      absurd (omega (arith, r.next.is, r.next.live, ap (λ (z : ℕ). at w z 2) r.is))

  -- without a target the tree goes
  pub gone_grows : get_or row (at w a 0) 0 ≡ 0 → Grows w row 0 a (pushed w a)
  gone_grows e m t y f to P R T =
      gone w m a f to P T t y
      (only (λ g. erase to ≡ grow t y 0 (erase g) (erase to))
      (λ p s k z. means_none t y s (erase k) (erase to) (R.same s ∙ meant-none row s (subst (λ (i : ℕ). get_or row i 0 ≡ 0) z e))) f T.source)

  -- with one it is grown
  pub grown_grows : (u : ℕ) → get_or row (at w a 0) 0 ≡ u + 1 → (v₁ : List ℕ) (p : ℕ) → Takes w p v₁ → (v : List ℕ) →
      Joins (rooted v₁ p u a) 0 1 (at (rooted v₁ p u a) 0 1) p v → Grows w row 0 a v
  grown_grows u e v₁ p K v J m t y f to P R T =
      let k = K P (source_left w m a f to P T) in
      grown w m a f to P T v₁ p u k t y
      (only (λ g. join (erase to) (tree u (erase g) nothing) ≡ grow t y 0 (erase g) (erase to))
      (λ p s k z. means_some t y s (erase k) (erase to) u (R.same s ∙ subst (λ (i : ℕ). meant row i ≡ some u) z (meant-some row (at w a 0) u e))) f T.source)
      v (J to (node p u f nil) k.left (sprout_two w m a f to P T v₁ p u k))

-- what the code asks on the way
module _ {w row : List ℕ} {a : ℕ} (S : SomeSource w row a) where
  -- what the taking of a node asks
  pub some_left : SomeLeft w
  some_left = record { P = S.P; has = source_left w S.m a S.f S.to S.P S.holds }

  -- what the join asks
  pub some_two : (v₁ : List ℕ) (p u : ℕ) → Takes w p v₁ → SomeTwo (rooted v₁ p u a) 0 1 (at (rooted v₁ p u a) 0 1) p
  some_two v₁ p u K =
      let k = K S.P (source_left w S.m a S.f S.to S.P S.holds) in
      record { f = S.to; g = node p u S.f nil; P = k.left; two = sprout_two w S.m a S.f S.to S.P S.holds v₁ p u k }
