-- The first root that reduces, root by root. Assumes nothing.
use mathlib.Core.Path.{◌≡◌, ◌∙◌, refl, sym, ap, subst, subst⁻¹}
use mathlib.Core.Option.{none, some}
use mathlib.Core.List.{List}
use Prim.Native.Nat.{ℕ, ◌+◌, ◌<◌, ◌≤◌}
use native.Mathlib.Omega.{arith}
use native.Mathlib.Numerals.{add-one}
use Rattle.std.specs.Prelude.{Some}
use lib.ListN.{length, get_or}
use Rattle.theory.specs.Table.{Table, reduce_on}
use Rattle.theory.specs.Forest.{Forest, nothing, tree, choose, chosen}
use Rattle.theory.proofs.Forest.Sizes.{parts}
use Rattle.forest.specs.Words.{stride, at, poke, Inside, max_words, poke-len, at_same, at_other}
use Rattle.forest.specs.Trees.{Tree, nil, node, erase, weigh, one, occ, Rep, live}
use Rattle.forest.specs.Picks.{Linked, SomeLinked, Choice, Picked, Picks, PicksOne}
use Rattle.forest.specs.Rows.{Acts}
use Rattle.forest.proofs.Frame.{one-self, frame, differ, still, live-rep}
use Rattle.forest.proofs.Sprouting.{meant-none, meant-some}

-- ---- what is chosen
pub choice_end : (t : Table) (y : ℕ) → Choice t y nothing nothing nothing
unfolding choose
choice_end t y = (refl, refl)

-- where the first root does not reduce, the choice is that of the later ones
choice_on : (t : Table) (y s : ℕ) (k F G H : Forest) → reduce_on t s y ≡ none → Choice t y F G H → Choice t y (tree s k F) G (tree s k H)
unfolding choose chosen
choice_on t y s k F nothing H e (a, b) = (rw (e, a) refl, ap (λ (z : Forest). tree s k z) b)
choice_on t y s k F (tree s' k' b') H e (z, c) = (z, record { rule = c.rule; on = c.on; is = rw (e, c.is) refl })

-- where it does, it is chosen
choice_here : (t : Table) (y s r : ℕ) (k F : Forest) → reduce_on t s y ≡ some r → Choice t y (tree s k F) (tree s k nothing) F
unfolding choose chosen
choice_here t y s r k F e = (refl, record { rule = r; on = e; is = rw e refl })

-- ---- the turns
module _ (w : List ℕ) (d j m p s : ℕ) (k n : Tree) (L : Linked w d j m (node p s k n)) where
  -- the link leads to the first root
  at_p : at w d j ≡ p
  at_p = L.rep.is

  -- which is not the node of the link
  d≢p : d ≡ p → ⊥
  d≢p e = let o : one d p ≡ 1 = subst (λ (z : ℕ). one d z ≡ 1) e (one-self d) in omega (arith, L.apart)

  -- its own link leads to the later ones
  pub on_linked : Linked w p 2 m n
  on_linked =
      record {
        rep = L.rep.next;
        once = λ q. omega (arith, L.once q);
        apart = omega (arith, L.once p, one-self p);
        inside = L.rep.inside;
        link = (omega arith, omega arith);
        rising = (parts L.rising).beside;
        fits = omega (arith, L.fits);
        words = L.words;
      }

  -- an untouched node is not it
  not_p : (q : ℕ) → occ q (node p s k n) ≡ 0 → q ≡ p → ⊥
  not_p q h e = let o : one q p ≡ 1 = subst (λ (z : ℕ). one q z ≡ 1) e (one-self q) in omega arith

  -- what was picked of the later ones was picked of all
  pub on_picked : (v : List ℕ) (r : ℕ) (t : Table) (y : ℕ) → reduce_on t s y ≡ none → Picked w v p 2 r t y n → Picked w v d j r t y (node p s k n)
  on_picked v r t y e H =
      let l = L.link in
      let off : occ p k + occ p n ≡ 0 = omega (arith, L.once p, one-self p) in
      record {
        picked = H.picked;
        rest = node p s k H.rest;
        rep = H.rep;
        rep_rest =
            record {
              is = H.kept d j (omega arith) (omega (arith, L.apart)) (λ a b. d≢p a) ∙ at_p;
              live = L.rep.live;
              inside = omega (arith, H.len, L.rep.inside);
              state = H.kept p 0 (omega arith) (omega arith) (λ a b. omega arith) ∙ L.rep.state;
              kids =
                  subst⁻¹ (λ (z : ℕ). Rep v z k) (H.kept p 1 (omega arith) (omega arith) (λ a b. omega arith))
                  (frame w v k (at w p 1) H.len
                  (λ q o i l. H.kept q i (omega arith) (omega (arith, L.once q)) (λ a b. differ p q (λ m. weigh m k) (omega arith) o a)) L.rep.kids);
              next = H.rep_rest;
            };
        means = choice_on t y s (erase k) (erase n) (erase H.picked) (erase H.rest) e H.means;
        weight = λ m. omega (arith, H.weight m);
        kept = λ q i l h o. H.kept q i l (omega arith) (λ a b. not_p q h a);
        len = H.len;
      }

  -- the words when the link leads past the first root
  abbrev u : List ℕ
  u = poke w d j (at w p 2)

  -- and the root has none beside it
  abbrev v : List ℕ
  v = poke u p 2 0

  -- then it is picked
  pub here_picked : (t : Table) (y r : ℕ) → reduce_on t s y ≡ some r → Picked w v d j p t y (node p s k n)
  here_picked t y r e =
      let l = L.link in
      let x = at w p 2 in
      let off : occ p k + occ p n ≡ 0 = omega (arith, L.once p, one-self p) in
      let inu : Inside u p = omega (arith, poke-len w d j x, L.rep.inside) in
      let wd : (i : ℕ) → i < stride → at u p i ≡ at w p i = λ i h. at_other w d j x p i (omega arith) h (λ a b. d≢p (sym a)) in
      record {
        picked = node p s k nil;
        rest = n;
        rep =
            record {
              is = refl;
              live = L.rep.live;
              inside = omega (arith, poke-len u p 2 0, inu);
              state = at_other u p 2 0 p 0 (omega arith) (omega arith) (λ a b. omega arith) ∙ wd 0 (omega arith) ∙ L.rep.state;
              kids =
                  subst⁻¹ (λ (z : ℕ). Rep v z k) (at_other u p 2 0 p 1 (omega arith) (omega arith) (λ a b. omega arith) ∙ wd 1 (omega arith))
                  (still u p 2 0 k (at w p 1) (omega arith) (omega arith) (still w d j x k (at w p 1) (omega arith) (omega (arith, L.apart)) L.rep.kids));
              next = at_same u p 2 0 (omega arith) inu;
            };
        rep_rest =
            subst⁻¹ (λ (z : ℕ). Rep v z n) (at_other u p 2 0 d j (omega arith) (omega arith) (λ a b. d≢p a) ∙ at_same w d j x (omega arith) L.inside)
            (still u p 2 0 n x (omega arith) (omega arith) (still w d j x n x (omega arith) (omega (arith, L.apart)) L.rep.next));
        means = choice_here t y s r (erase k) (erase n) e;
        weight = λ m. omega arith;
        kept =
            λ q i h o z.
            at_other u p 2 0 q i (omega arith) h (λ a b. not_p q o a)
            ∙ at_other w d j x q i (omega arith) h z;
        len = poke-len u p 2 0 ∙ poke-len w d j x;
      }

-- ---- as the code takes them
module _ (w acts : List ℕ) (d j a : ℕ) (is : a ≡ at w d j) where
  -- without roots none is picked
  pub end_picks : a ≡ 0 → Picks w acts d j w 0
  end_picks e m t y nil A L =
      record {
        picked = nil;
        rest = nil;
        rep = refl;
        rep_rest = L.rep;
        means = choice_end t y;
        weight = λ m. omega arith;
        kept = λ q i l h n. refl;
        len = refl;
      }
  end_picks e m t y (node p s k n) A L = absurd (omega (arith, L.rep.is, L.rep.live))

  module _ (a≢ : a ≡ 0 → ⊥) where
    -- where there is a node, the trees have a first one
    opens : (Q : ℕ → ℕ → Tree → Type 0) → ((m p s : ℕ) (k n : Tree) → at w p 0 ≡ s → Linked w d j m (node p s k n) → Q m p (node p s k n)) →
        (m : ℕ) (f : Tree) → Linked w d j m f → Q m a f
    opens Q h m nil L = absurd (a≢ (is ∙ L.rep))
    opens Q h m (node p s k n) L = subst⁻¹ (λ (z : ℕ). Q m z (node p s k n)) (is ∙ L.rep.is) (h m p s k n L.rep.state L)

    -- a root with an action is picked
    pub here_picks : (r : ℕ) → get_or acts (at w a 0) 0 ≡ r + 1 → Picks w acts d j (poke (poke w d j (at w a 2)) a 2 0) a
    here_picks r h m t y f A L =
        opens (λ m z f. get_or acts (at w z 0) 0 ≡ r + 1 → Picked w (poke (poke w d j (at w z 2)) z 2 0) d j z t y f)
        (λ m p s k n e L h. here_picked w d j m p s k n L t y r (A.same s ∙ meant-some acts s r (ap (λ (i : ℕ). get_or acts i 0) (sym e) ∙ h))) m f L h

    -- past one without, what is picked later is picked
    pub on_picks : get_or acts (at w a 0) 0 ≡ 0 → (v : List ℕ) (r : ℕ) → Picks w acts a 2 v r → Picks w acts d j v r
    on_picks h v r H m t y f A L =
        opens (λ m z f. Acts acts m t y → get_or acts (at w z 0) 0 ≡ 0 → Picks w acts z 2 v r → Picked w v d j r t y f)
        (λ m p s k n e L A h H. on_picked w d j m p s k n L v r t y (A.same s ∙ meant-none acts s (ap (λ (i : ℕ). get_or acts i 0) (sym e) ∙ h)) (H m t y n A (on_linked w d j m p s k n L))) m f L A h H

    module _ (S : SomeLinked w acts d j) where
      -- what the next turn asks
      pub on_some : SomeLinked w acts a 2
      on_some =
          opens (λ m z f. Acts acts m S.t S.y → SomeLinked w acts z 2)
          (λ m p s k n e L A. record { m = m; t = S.t; y = S.y; f = n; does = A; holds = on_linked w d j m p s k n L }) S.m S.f S.holds S.does

      -- the node at hand is in the room
      pub linked_in : Inside w a
      linked_in = opens (λ m z f. Inside w z) (λ m p s k n e L. L.rep.inside) S.m S.f S.holds

      -- and its state in the row
      pub linked_state : at w a 0 < length acts
      linked_state =
          opens (λ m z f. m ≤ length acts → at w z 0 < length acts) (λ m p s k n e L l. omega (arith, (parts L.rising).below)) S.m S.f S.holds S.does.long

      -- the later roots have fewer live nodes
      pub linked_falls : live w (at w a 2) < live w a
      linked_falls =
          opens (λ m z f. live w (at w z 2) < live w z)
          (λ m p s k n e L.
          let c = live-rep (node p s k n) w p (record { is = refl; live = L.rep.live; inside = L.rep.inside; state = L.rep.state; kids = L.rep.kids; next = L.rep.next }) L.fits in
          omega (arith, live-rep n w (at w p 2) L.rep.next (omega (arith, L.fits)))) S.m S.f S.holds

-- the loop's invariant
pub record Picked-on (w₀ acts : List ℕ) (w : List ℕ) (d j a : ℕ) : Type 0 where
  pub some : SomeLinked w acts d j
  pub is : a ≡ at w d j
  pub same : w ≡ w₀
  pub back : (v : List ℕ) (r : ℕ) → Picks w acts d j v r → Picks w₀ acts 0 1 v r

-- ---- a turn of the loop
module _ {w₀ acts w : List ℕ} {d j a : ℕ} (G : Picked-on w₀ acts w d j a) where
  -- the list is at its end: none is picked
  pub none_picked : a ≡ 0 → Picks w₀ acts 0 1 w 0
  none_picked e = G.back w 0 (end_picks w acts d j a G.is e)

  module _ (a≢ : a ≡ 0 → ⊥) where
    -- the root at hand is in the room
    pub root_in : Inside w a × (length w ≤ max_words)
    root_in = (linked_in w acts d j a G.is a≢ G.some, G.some.holds.words)

    -- its state is in the row
    pub root_state : at w a 0 < length acts
    root_state = linked_state w acts d j a G.is a≢ G.some

    module _ {s n : ℕ} (is : s ≡ at w a 0) (next : n ≡ at w a 2) where
      -- fewer live nodes are left behind it
      pub root_falls : live w n < live w a
      root_falls = subst⁻¹ (λ (z : ℕ). live w z < live w a) next (linked_falls w acts d j a G.is a≢ G.some)

      -- one that reduces by no rule is passed by
      pub root_passed : get_or acts s 0 ≡ 0 → Picked-on w₀ acts w a 2 n
      root_passed h = record {
        some = on_some w acts d j a G.is a≢ G.some;
        is = next;
        same = G.same;
        back = λ v r H. G.back v r (on_picks w acts d j a G.is a≢ (ap (λ (i : ℕ). get_or acts i 0) (sym is) ∙ h) v r H);
      }

      -- one that reduces is picked with its rule
      pub root_picked : (r : ℕ) → get_or acts s 0 ≡ r + 1 → (u v : List ℕ) → u ≡ poke w d j n → v ≡ poke u a 2 0 →
          PicksOne w₀ acts v (Some (record { root = a; rule = r }))
      root_picked r h u v eu ev =
          let o : get_or acts (at w a 0) 0 ≡ r + 1 = ap (λ (i : ℕ). get_or acts i 0) (sym is) ∙ h in
          let z : at v a 0 ≡ at w a 0 = ap (λ (l : List ℕ). at l a 0) (ev ∙ ap (λ (l : List ℕ). poke l a 2 0) eu)
          ∙ at_other (poke w d j n) a 2 0 a 0 (omega arith) (omega arith) (λ p q. omega arith)
          ∙ at_other w d j n a 0 (omega (arith, G.some.holds.link)) (omega arith) (λ p q. omega (arith, G.some.holds.link)) in (
            G.back v a (subst⁻¹ (λ (l : List ℕ). Picks w acts d j l a)
                (ev ∙ ap (λ (l : List ℕ). poke l a 2 0) (eu ∙ ap (λ (x : ℕ). poke w d j x) next)) (here_picks w acts d j a G.is a≢ r o)),
            omega arith,
            ap (λ (i : ℕ). get_or acts i 0) z ∙ o ∙ add-one r,
          )
