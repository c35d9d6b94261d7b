-- The turns of a join. Assumes nothing.
use mathlib.Core.Path.{◌≡◌, ◌∙◌, refl, sym, ap, subst}
use mathlib.Core.List.{List}
use Prim.Native.Nat.{ℕ, ◌+◌, ◌<◌, ◌≤◌}
use native.Mathlib.Omega.{arith}
use borrow.Author.Tests.{eq-eqb, ne_eqb, lt-ltb, le-ltb}
use lib.ListN.{length}
use Rattle.theory.specs.Forest.{Forest, tree, join, meet, weave}
use Rattle.forest.specs.Words.{stride, at, poke, Inside, poke-len, at_same, at_other}
use Rattle.forest.specs.Trees.{Tree, nil, node, erase, weigh, one, occ, Rep}
use Rattle.forest.specs.Pools.{Pool, pooled}
use Rattle.forest.specs.Joins.{Kept, Two, Joined, Joins, Pair, Met}
use Rattle.forest.proofs.Frame.{one-self, frame, not_none, differ, still, pool_still, kept_rep}

-- ---- the ends
module _ (w : List ℕ) (d j x y : ℕ) where
  -- what is laid at the word is one of the two
  lay : (f g : Tree) (P : Pool) → Two w d j x y f g P → (z : ℕ) (t : Tree) → Rep w z t → occ d t ≡ 0 →
      erase t ≡ join (erase f) (erase g) → ((m : ℕ → ℕ) → weigh m t ≡ weigh m f + weigh m g) → Joined w (poke w d j z) d j f g P
  lay f g P T z t r o e s =
      record {
        tree = t;
        left = P;
        rep = subst (λ (y : ℕ). Rep (poke w d j z) y t) (sym (at_same w d j z (omega (arith, T.link)) T.inside)) (still w d j z t z (omega (arith, T.link)) o r);
        means = e;
        pool = pool_still w d j z P T.link.0 T.link.1 (omega (arith, T.apart)) T.pool;
        weight = λ m. omega (arith, s m);
        kept = λ q i l h n k. at_other w d j z q i (omega (arith, T.link)) l n;
        len = poke-len w d j z;
      }

  -- nothing is left of the first list: the second is the rest
  pub end_left : x ≡ 0 → Joins w d j x y (poke w d j y)
  unfolding join
  end_left h nil g P T = lay nil g P T y g T.second (omega (arith, T.apart)) refl (λ m. omega arith)
  end_left h (node p s k n) g P T = absurd (omega (arith, T.first.is, T.first.live))

  -- nothing is left of the second list: the first is the rest
  pub end_right : y ≡ 0 → Joins w d j x y (poke w d j x)
  unfolding join weave
  end_right h nil nil P T = lay nil nil P T x nil T.first (omega (arith, T.apart)) refl (λ m. omega arith)
  end_right h (node p s k n) nil P T = lay (node p s k n) nil P T x (node p s k n) T.first (omega (arith, T.apart)) refl (λ m. omega arith)
  end_right h f (node p s k n) P T = absurd (omega (arith, T.second.is, T.second.live))

-- ---- one node stays, and the rest lands in its next word
module _
    (w v u : List ℕ)
    (d j p s : ℕ)
    (a f g f' g' : Tree)
    (P P' : Pool)
    (once : (q : ℕ) → occ q f + occ q g + pooled (one q) P ≤ 1)
    (apart : occ d f + occ d g + pooled (one d) P ≡ 0)
    (link : (1 ≤ j) × (j ≤ 2))
    (live_p : 0 < p)
    (inside : Inside v p)
    (state : at v p 0 ≡ s)
    (kids : Rep v (at v p 1) a)
    (at-d : at v d j ≡ p)
    (long : length v ≡ length w)
    (before : Kept w v d j (λ q. occ q f + occ q g + pooled (one q) P))
    (all : (m : ℕ → ℕ) → weigh m f + weigh m g + pooled m P ≡ m p + weigh m a + (weigh m f' + weigh m g' + pooled m P'))
    (is : tree s (erase a) (join (erase f') (erase g')) ≡ join (erase f) (erase g))
    (J : Joined v u p 2 f' g' P')
  where
    d≢p : d ≡ p → ⊥
    d≢p e = let z : one d p ≡ 0 = omega (arith, all (one d)) in let o : one d p ≡ 1 = subst (λ (q : ℕ). one d q ≡ 1) e (one-self d) in omega arith

    p_out : occ p f' + occ p g' + pooled (one p) P' ≡ 0
    p_out = omega (arith, all (one p), once p, one-self p)

    p_word : (i : ℕ) → i < 2 → at u p i ≡ at v p i
    p_word i h = J.kept p i (omega arith) p_out (λ e z. omega arith) (λ e. absurd (omega arith))

    pub keep : Joined w u d j f g P
    keep =
        record {
          tree = node p s a J.tree;
          left = J.left;
          rep =
              record {
                is = J.kept d j (omega arith) (omega (arith, all (one d))) (λ e z. d≢p e) (λ e. link) ∙ at-d;
                live = live_p;
                inside = omega (arith, J.len);
                state = p_word 0 (omega arith) ∙ state;
                kids =
                    subst (λ (y : ℕ). Rep u y a) (sym (p_word 1 (omega arith)))
                    (frame v u a (at v p 1) J.len
                    (λ q h i l. J.kept q i (omega arith) (omega (arith, all (one q), once q))
                    (λ e z. let o : one q p ≡ 1 = subst (λ (z : ℕ). one q z ≡ 1) e (one-self q) in omega (arith, all (one q), once q))
                    (λ e. absurd (differ 0 q (λ m. weigh m a) (not_none v a (at v p 1) kids) h e))) kids);
                next = J.rep;
              };
          means = ap (λ (r : Forest). tree s (erase a) r) J.means ∙ is;
          pool = J.pool;
          weight = λ m. omega (arith, all m, J.weight m);
          kept =
              λ q i l h n k.
              J.kept q i l (omega (arith, all (one q))) (λ e z. absurd (differ' q h e)) k
              ∙ before q i l h n k;
          len = J.len ∙ long;
        }
      where
        differ' : (q : ℕ) → occ q f + occ q g + pooled (one q) P ≡ 0 → q ≡ p → ⊥
        differ' q h e = let o : one q p ≡ 1 = subst (λ (z : ℕ). one q z ≡ 1) e (one-self q) in omega (arith, all (one q))

-- ---- meanings
module _ (s s' : ℕ) (k b k' b' : Forest) where
  -- the first list's tree has the lower state: it comes first
  pub means_less : s < s' → tree s k (join b (tree s' k' b')) ≡ join (tree s k b) (tree s' k' b')
  unfolding join weave
  means_less h = simp (lt-ltb s s' h)

  -- the second list's has
  pub means_more : s' < s → tree s' k' (join (tree s k b) b') ≡ join (tree s k b) (tree s' k' b')
  unfolding join weave
  means_more h = simp (le-ltb s s' (omega arith), ne_eqb s s' (λ e. omega arith))

  -- both have the same: they become one
  pub means_same : s ≡ s' → tree s (meet k k' (join k k')) (join b b') ≡ join (tree s k b) (tree s' k' b')
  unfolding join weave
  means_same h = simp (le-ltb s s' (omega arith), eq-eqb s s' h)

-- ---- the turns
pub at_own : (w : List ℕ) (x p s : ℕ) (k n : Tree) → Rep w x (node p s k n) → Rep w p (node p s k n)
at_own w x p s k n r = record { is = refl; live = r.live; inside = r.inside; state = r.state; kids = r.kids; next = r.next }

module _ (w : List ℕ) (d j p s : ℕ) (k n g : Tree) (P : Pool) where
  -- the words when the link leads to the first tree
  abbrev v₁ : List ℕ
  v₁ = poke w d j p

  module _ (y : ℕ) (T : Two w d j p y (node p s k n) g P) where
    -- its root is not the node of the link
    p≢d : p ≡ d → ⊥
    p≢d e = differ d p (λ m. weigh m (node p s k n)) (omega (arith, T.apart)) (omega (arith, one-self p)) e

    -- its words are as they were
    pub laid : (i : ℕ) → i < stride → at v₁ p i ≡ at w p i
    laid i h = at_other w d j p p i (omega (arith, T.link)) h (λ e z. p≢d e)

    -- the rest of both lists stands ready, to be linked from it
    pub less_two : Two v₁ p 2 (at w p 2) y n g P
    less_two =
        let l = T.link in
        record {
          first = still w d j p n (at w p 2) (omega arith) (omega (arith, T.apart)) T.first.next;
          second = still w d j p g y (omega arith) (omega (arith, T.apart)) T.second;
          pool = pool_still w d j p P l.0 l.1 (omega (arith, T.apart)) T.pool;
          once = λ q. omega (arith, T.once q);
          apart = omega (arith, T.once p, one-self p);
          inside = omega (arith, poke-len w d j p, T.first.inside);
          link = (omega arith, omega arith);
          fits = omega (arith, T.fits, poke-len w d j p);
          words = omega (arith, T.words, poke-len w d j p);
        }

    -- when the rest is joined, all is
    pub less_end : tree s (erase k) (join (erase n) (erase g)) ≡ join (tree s (erase k) (erase n)) (erase g) →
        (u : List ℕ) → Joined v₁ u p 2 n g P → Joined w u d j (node p s k n) g P
    less_end e u J =
        let l = T.link in
        keep w v₁ u d j p s k (node p s k n) g n g P P T.once T.apart l T.first.live less_two.inside
        (laid 0 (omega arith) ∙ T.first.state)
        (subst (λ (z : ℕ). Rep v₁ z k) (sym (laid 1 (omega arith))) (still w d j p k (at w p 1) (omega arith) (omega (arith, T.apart)) T.first.kids))
        (at_same w d j p (omega arith) T.inside) (poke-len w d j p)
        (λ q i h z o a. at_other w d j p q i (omega arith) h o)
        (λ m. omega arith) e J

-- both lists may change places
pub swap : {w : List ℕ} {d j x y : ℕ} {f g : Tree} {P : Pool} → Two w d j x y f g P → Two w d j y x g f P
swap T =
    record {
      first = T.second;
      second = T.first;
      pool = T.pool;
      once = λ q. omega (arith, T.once q);
      apart = omega (arith, T.apart);
      inside = T.inside;
      link = T.link;
      fits = omega (arith, T.fits);
      words = T.words;
    }

module _ (w : List ℕ) (d j p s : ℕ) (k n f : Tree) (P : Pool) (x : ℕ) (T : Two w d j x p f (node p s k n) P) where
  -- the same, where the second list's tree comes first
  pub more_two : Two (poke w d j p) p 2 x (at w p 2) f n P
  more_two = swap (less_two w d j p s k n f P x (swap T))

  -- and its end
  pub more_end : tree s (erase k) (join (erase f) (erase n)) ≡ join (erase f) (tree s (erase k) (erase n)) →
      (u : List ℕ) → Joined (poke w d j p) u p 2 f n P → Joined w u d j f (node p s k n) P
  more_end e u J =
      let l = T.link in
      let v = poke w d j p in
      let kept = laid w d j p s k n f P x (swap T) in
      keep w v u d j p s k f (node p s k n) f n P P T.once T.apart l T.second.live more_two.inside
      (kept 0 (omega arith) ∙ T.second.state)
      (subst (λ (z : ℕ). Rep v z k) (sym (kept 1 (omega arith))) (still w d j p k (at w p 1) (omega arith) (omega (arith, T.apart)) T.second.kids))
      (at_same w d j p (omega arith) T.inside) (poke-len w d j p)
      (λ q i h z o a. at_other w d j p q i (omega arith) h o)
      (λ m. omega arith) e J

-- equal states: the word, then the children, then the rest
module _ (w : List ℕ) (d j p s : ℕ) (k n : Tree) (q s' : ℕ) (k' n' : Tree) (P : Pool) (T : Two w d j p q (node p s k n) (node q s' k' n') P) where
  -- the words when the link leads to the first of two equal trees
  abbrev v : List ℕ
  v = poke w d j p

  -- the first root is as it was
  laid_p : (i : ℕ) → i < stride → at v p i ≡ at w p i
  laid_p = laid w d j p s k n (node q s' k' n') P q T

  -- the second is not the node of the link
  q≢d : q ≡ d → ⊥
  q≢d e = differ d q (λ m. weigh m (node q s' k' n')) (omega (arith, T.apart)) (omega (arith, one-self q)) e

  -- and is as it was
  laid_q : (i : ℕ) → i < stride → at v q i ≡ at w q i
  laid_q i h = at_other w d j p q i (omega (arith, T.link)) h (λ e z. q≢d e)

  -- both stand ready to become one
  pub same_pair : Pair v p q k k' P
  same_pair =
      let l = T.link in
      record {
        first = subst (λ (z : ℕ). Rep v z k) (sym (laid_p 1 (omega arith))) (still w d j p k (at w p 1) (omega arith) (omega (arith, T.apart)) T.first.kids);
        second = subst (λ (z : ℕ). Rep v z k') (sym (laid_q 1 (omega arith))) (still w d j p k' (at w q 1) (omega arith) (omega (arith, T.apart)) T.second.kids);
        pool = pool_still w d j p P l.0 l.1 (omega (arith, T.apart)) T.pool;
        once = λ r. omega (arith, T.once r);
        apart = omega (arith, T.once p, one-self p);
        inside = omega (arith, poke-len w d j p, T.first.inside);
        inside_b = omega (arith, poke-len w d j p, T.second.inside);
        live_b = T.second.live;
        fits = omega (arith, T.fits, poke-len w d j p);
        words = omega (arith, T.words, poke-len w d j p);
      }

  module _ (u₁ : List ℕ) (M : Met v u₁ p q k k' P) where
    -- a tree apart from both stays
    stays : (t : Tree) (x : ℕ) → Rep w x t → ((r : ℕ) → occ r t + (occ r k + occ r k' + pooled (one r) P + one r q) ≤ 1) → occ p t ≡ 0 → occ d t ≡ 0 → Rep u₁ x t
    stays t x r h z y =
        kept_rep v u₁ p 1 (λ m. weigh m k + weigh m k' + pooled m P + m q) M.len M.kept t x h z
        (still w d j p t x (omega (arith, T.link)) y r)

    -- the rest of both lists stands ready, to be linked from the one
    pub same_two : Two u₁ p 2 (at w p 2) (at w q 2) n n' M.left
    same_two =
        record {
          first = stays n (at w p 2) T.first.next (λ r. omega (arith, T.once r)) (omega (arith, T.once p, one-self p)) (omega (arith, T.apart));
          second = stays n' (at w q 2) T.second.next (λ r. omega (arith, T.once r)) (omega (arith, T.once p, one-self p)) (omega (arith, T.apart));
          pool = M.pool;
          once = λ r. omega (arith, T.once r, M.weight (one r));
          apart = omega (arith, T.once p, one-self p, M.weight (one p));
          inside = omega (arith, M.len, poke-len w d j p, T.first.inside);
          link = (omega arith, omega arith);
          fits = omega (arith, T.fits, M.len, poke-len w d j p);
          words = omega (arith, T.words, M.len, poke-len w d j p);
        }

    -- the place of the one stands nowhere else
    off_p : occ p k + occ p k' + pooled (one p) P + one p q ≡ 0
    off_p = omega (arith, T.once p, one-self p)

    -- when the rest is joined, all is
    pub same_end : s ≡ s' → (u : List ℕ) → Joined u₁ u p 2 n n' M.left → Joined w u d j (node p s k n) (node q s' k' n') P
    same_end e u J =
        let l = T.link in
        keep w u₁ u d j p s M.tree (node p s k n) (node q s' k' n') n n' P M.left T.once T.apart l T.first.live same_two.inside
        (M.kept p 0 (omega arith) off_p (λ a b. omega arith) (λ a. absurd (omega (arith, T.first.live))) ∙ laid_p 0 (omega arith) ∙ T.first.state)
        M.rep
        (M.kept d j (omega arith) (omega (arith, T.apart)) (λ a b. absurd (differ d p (λ m. weigh m (node p s k n)) (omega (arith, T.apart)) (omega (arith, one-self p)) (sym a))) (λ a. l)
        ∙ at_same w d j p (omega arith) T.inside)
        (M.len ∙ poke-len w d j p)
        (λ r i h z o a. M.kept r i h (omega arith) (λ b c. absurd (differ_p r z b)) a ∙ at_other w d j p r i (omega arith) h o)
        (λ m. omega (arith, M.weight m))
        (ap (λ (z : Forest). tree s z (join (erase n) (erase n'))) M.means ∙ means_same s s' (erase k) (erase n) (erase k') (erase n') e)
        J
      where
        differ_p : (r : ℕ) → occ r (node p s k n) + occ r (node q s' k' n') + pooled (one r) P ≡ 0 → r ≡ p → ⊥
        differ_p r z b = let o : one r p ≡ 1 = subst (λ (y : ℕ). one r y ≡ 1) b (one-self r) in omega arith
