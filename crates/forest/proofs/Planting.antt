-- The forest of some paths, entry by entry. Assumes nothing.
use mathlib.Core.Path.{◌≡◌, ◌∙◌, refl, ap, subst, subst⁻¹}
use mathlib.Core.List.{List, [], ◌∷◌}
use Prim.Native.Nat.{ℕ, suc, ◌+◌, ◌-◌, ◌<◌, ◌≤◌}
use native.Mathlib.Omega.{arith}
use lib.ListN.{length, get_or, drop, length-drop}
use lib.Seq.{drop-cons, drop-length}
use Rattle.theory.specs.Forest as Of
use Rattle.theory.specs.Forest.{Forest, nothing, tree, join}
use Rattle.forest.specs.Words.{max_words, at, Inside}
use Rattle.forest.specs.Trees.{Tree, nil, node, erase, weigh, one, each, occ, size, Rep}
use Rattle.forest.specs.Pools.{Pool, pooled, Pooled}
use Rattle.forest.specs.Joins.{Kept, Two, SomeTwo, Joined, Joins}
use Rattle.forest.specs.Takes.{Left, SomeLeft, Took, Takes}
use Rattle.forest.specs.Grows.{rooted}
use Rattle.forest.specs.Longs.{Plenty, SomePlenty, Aside, Asides}
use Rattle.forest.specs.Plants.{chain, later, planted}
use Rattle.forest.proofs.Frame.{one-self, not_none, kept_rep}
use Rattle.forest.proofs.Taking.{zero_in}
use Rattle.forest.proofs.Turns.{inside_at}
use Rattle.forest.proofs.Sprouting.{pool_no_zero, root_len, root_kept, root_rep, root_pool, root_is}
use Rattle.forest.proofs.Growing.{erase-size}
use Rattle.forest.proofs.Spreading.{size-join}

-- Of the entries us: the first path's tree is at x, the later ones are set aside, and the other nodes are in the store.
pub record Made (w v us : List ℕ) (x : ℕ) (P : Pool) : Type 0 where
  pub stem : Tree
  pub tree : Tree
  pub left : Pool
  pub rep_stem : Rep v x stem
  pub is_stem : erase stem ≡ chain us
  pub rep : Rep v (at v 0 2) tree
  pub is : erase tree ≡ later us
  pub few : size stem + size tree ≤ length us
  pub pool : Pooled v left
  pub weight : (m : ℕ → ℕ) → weigh m stem + weigh m tree + pooled m left ≡ pooled m P
  pub kept : Kept w v 0 2 (λ q. pooled (one q) P)
  pub len : length v ≡ length w

-- without entries nothing is made
none_made : (w row : List ℕ) (P : Pool) → Plenty w row P → at w 0 2 ≡ 0 → Made w w [] 0 P
unfolding chain later
none_made w row P H e =
    record {
      stem = nil;
      tree = nil;
      left = P;
      rep_stem = refl;
      is_stem = refl;
      rep = e;
      is = refl;
      few = omega arith;
      pool = H.pool;
      weight = λ m. omega arith;
      kept = λ q i l h n o. refl;
      len = refl;
    }

-- after a 0 a new path begins, and what was made before is set aside
hung_made : (w v us : List ℕ) (P : Pool) → Aside w v (planted us) (length us) P → Made w v (0 ∷ us) 0 P
unfolding planted chain later
hung_made w v us P A =
    record {
      stem = nil;
      tree = A.tree;
      left = A.left;
      rep_stem = refl;
      is_stem = refl;
      rep = A.rep;
      is = A.means;
      few = omega (arith, A.few);
      pool = A.pool;
      weight = λ m. omega (arith, A.weight m);
      kept = A.kept;
      len = A.len;
    }

-- the first path's tree grows by a root
chain-root : (u : ℕ) (us : List ℕ) {F : Forest} → F ≡ chain us → tree u F nothing ≡ chain (suc u ∷ us)
unfolding chain
chain-root u us e = ap (λ (z : Forest). tree u z nothing) e

-- the later ones stay
later-root : (u : ℕ) (us : List ℕ) → later us ≡ later (suc u ∷ us)
unfolding later
later-root u us = refl

module _ (w v row us : List ℕ) (x : ℕ) (P : Pool) (H : Plenty w row P) (M : Made w v us x P) where
  -- node 0 is none of the nodes
  off_0 : occ 0 M.stem + occ 0 M.tree + pooled (one 0) M.left ≡ 0
  off_0 = omega (
    arith,
    not_none v M.stem x M.rep_stem,
    not_none v M.tree (at v 0 2) M.rep,
    pool_no_zero v M.left M.pool,
  )

  -- the first path's tree and the trees set aside stand ready to be joined
  made_two : Two v 0 2 x (at v 0 2) M.stem M.tree M.left
  made_two =
      record {
        first = M.rep_stem;
        second = M.rep;
        pool = M.pool;
        once = λ q. omega (arith, H.once q, M.weight (one q));
        apart = off_0;
        inside = zero_in M.pool;
        link = (omega arith, omega arith);
        fits = omega (arith, H.fits, M.weight each, M.len);
        words = omega (arith, H.words, M.len);
      }

  -- their join is the forest of all entries
  made_hung : (y : List ℕ) → Joined v y 0 2 M.stem M.tree M.left → Aside w y (planted us) (length us) P
  unfolding planted
  made_hung y J =
      let a = erase-size J.tree in
      let b = erase-size M.stem in
      let d = erase-size M.tree in
      let c : Of.size (erase J.tree) ≤ Of.size (erase M.stem) + Of.size (erase M.tree)
      = subst⁻¹ (λ (z : Forest). Of.size z ≤ Of.size (erase M.stem) + Of.size (erase M.tree)) J.means (size-join (erase M.stem) (erase M.tree)) in
      record {
        tree = J.tree;
        left = J.left;
        rep = J.rep;
        means = J.means ∙ (λ i. join (M.is_stem i) (M.is i));
        few = omega (arith, M.few);
        pool = J.pool;
        weight = λ m. omega (arith, J.weight m, M.weight m);
        kept = λ q i l h n o. J.kept q i l (omega (arith, M.weight (one q))) n o ∙ M.kept q i l h n o;
        len = J.len ∙ M.len;
      }

  -- there is a node for one more entry
  made_left : length us < length row → Left v M.left
  made_left h =
      record {
        pool = M.pool;
        once = λ q. omega (arith, H.once q, M.weight (one q));
        some = omega (arith, H.enough, M.weight each, M.few);
        words = omega (arith, H.words, M.len);
      }

  module _ (v₁ : List ℕ) (p u : ℕ) (K : Took v v₁ p M.left) where
    -- the words with the new root
    abbrev v₂ : List ℕ
    v₂ = rooted v₁ p u x

    -- its place stands nowhere else
    off_p : occ p M.stem + occ p M.tree + pooled (one p) K.left ≡ 0
    off_p = omega (arith, H.once p, M.weight (one p), one-self p, K.weight (one p))

    -- it is not node 0
    p≢0 : 0 ≡ p → ⊥
    p≢0 e = omega (arith, K.live)

    -- the trees set aside are where they were
    list₁ : at v₂ 0 2 ≡ at v 0 2
    list₁ = root_kept v₁ p u x 0 2 (omega arith) p≢0
        ∙ K.kept 0 2 (omega arith) (omega (arith, off_0)) (λ e z. omega arith) (λ e. (omega arith, omega arith))

    -- a place that is not in the store was not taken from it
    not_p : (q : ℕ) → pooled (one q) P ≡ 0 → q ≡ p → ⊥
    not_p q h z = let o : one q p ≡ 1 = subst (λ (r : ℕ). one q r ≡ 1) z (one-self q) in omega (arith, K.weight (one q), M.weight (one q))

    -- the first path has a new root
    made_root : Made w v₂ (suc u ∷ us) p P
    made_root =
        let still : (t : Tree) (y : ℕ) → ((q : ℕ) → occ q t + pooled (one q) M.left ≤ 1) → Rep v y t → Rep v₁ y t
        = λ t y h r. kept_rep v v₁ 0 3 (λ m. pooled m M.left) K.len K.kept t y h (not_none v t y r) r in
        record {
          stem = node p u M.stem nil;
          tree = M.tree;
          left = K.left;
          rep_stem = root_is v₁ p u x M.stem K.live K.inside (omega (arith, off_p))
              (still M.stem x (λ q. omega (arith, H.once q, M.weight (one q))) M.rep_stem);
          is_stem = chain-root u us M.is_stem;
          rep = subst⁻¹ (λ (z : ℕ). Rep v₂ z M.tree) list₁ (root_rep v₁ p u x M.tree (at v 0 2) (omega (arith, off_p))
              (still M.tree (at v 0 2) (λ q. omega (arith, H.once q, M.weight (one q))) M.rep));
          is = M.is ∙ later-root u us;
          few = omega (arith, M.few);
          pool = root_pool v₁ p u x K.left K.live (omega (arith, off_p)) K.pool;
          weight = λ m. omega (arith, K.weight m, M.weight m);
          kept =
              λ q i l h n o.
              root_kept v₁ p u x q i l (λ z. not_p q h z)
              ∙ K.kept q i l (omega (arith, M.weight (one q))) (λ z y. let k = o z in omega arith) o
              ∙ M.kept q i l h n o;
          len = root_len v₁ p u x ∙ K.len ∙ M.len;
        }

-- the loop's invariant: of the entries from i on all is made
pub record Sown (w row v : List ℕ) (x i : ℕ) : Type 0 where
  pub low : i ≤ length row
  pub some : SomePlenty w row
  pub made : (P : Pool) → Plenty w row P → Made w v (drop i row) x P
  pub len : length v ≡ length w

-- at first nothing is made
pub sown_first : (w row : List ℕ) → SomePlenty w row → at w 0 2 ≡ 0 → Sown w row w 0 (length row)
sown_first w row S e = record {
  low = omega arith;
  some = S;
  made = λ P H. subst⁻¹ (λ (l : List ℕ). Made w w l 0 P) (drop-length row) (none_made w row P H e);
  len = refl;
}

module _ {w row v : List ℕ} {x i : ℕ} (G : Sown w row v x i) where
  -- what the merging of the first path asks
  pub sown_two : SomeTwo v 0 2 x (at v 0 2)
  sown_two =
      let Q = G.some in
      let M = G.made Q.P Q.has in
      record { f = M.stem; g = M.tree; P = M.left; two = made_two w v row (drop i row) x Q.P Q.has M }

  -- what it leaves
  pub sown_hung : (y : List ℕ) → Joins v 0 2 x (at v 0 2) y → Asides w row (planted (drop i row)) (length (drop i row)) y
  sown_hung y J P H =
      let M = G.made P H in
      made_hung w v row (drop i row) x P H M y (J M.stem M.tree M.left (made_two w v row (drop i row) x P H M))

  -- the room's words are not too many, and the first path's place is a small number
  pub sown_small : (length v ≤ max_words) × (x < 4294967296)
  sown_small =
      let Q = G.some in
      let M = G.made Q.P Q.has in
      let h = inside_at v 0 M.stem x (zero_in M.pool) M.rep_stem in
      (omega (arith, Q.has.words, G.len), omega (arith, h, Q.has.words, G.len))

module _ {w row v : List ℕ} {x i : ℕ} (G : Sown w row v x (suc i)) where
  -- the entry at hand is before them
  at_hand : drop i row ≡ get_or row i 0 ∷ drop (suc i) row
  at_hand = drop-cons row i 0 (omega (arith, G.low))

  -- there are fewer entries after it
  fewer : length (drop (suc i) row) < length row
  fewer = omega (arith, length-drop (suc i) row, G.low)

  -- a turn at a 0
  pub sown_hang : get_or row i 0 ≡ 0 → (y : List ℕ) → Joins v 0 2 x (at v 0 2) y → length y ≡ length v → Sown w row y 0 i
  sown_hang e y J l = record {
    low = omega (arith, G.low);
    some = G.some;
    made = λ P H. subst⁻¹ (λ (us : List ℕ). Made w y us 0 P) (at_hand ∙ ap (λ (u : ℕ). u ∷ drop (suc i) row) e)
        (hung_made w y (drop (suc i) row) P (sown_hung G y J P H));
    len = l ∙ G.len;
  }

  -- what the taking of a node asks
  pub sown_left : SomeLeft v
  sown_left =
      let Q = G.some in
      let M = G.made Q.P Q.has in
      record { P = M.left; has = made_left w v row (drop (suc i) row) x Q.P Q.has M fewer }

  -- the node taken is in the room
  pub sown_took : (v₁ : List ℕ) (p : ℕ) → Takes v p v₁ → Inside v₁ p
  sown_took v₁ p K = let L = sown_left in (K L.P L.has).inside

  -- a turn at a state
  pub sown_root : (u : ℕ) → get_or row i 0 ≡ u + 1 → (v₁ : List ℕ) (p : ℕ) → Takes v p v₁ → length v₁ ≡ length v →
      Sown w row (rooted v₁ p u x) p i
  sown_root u is v₁ p K l =
      let e : get_or row i 0 ≡ suc u = omega arith in
      record {
        low = omega (arith, G.low);
        some = G.some;
        made = λ P H.
            let M = G.made P H in
            subst⁻¹ (λ (us : List ℕ). Made w (rooted v₁ p u x) us p P) (at_hand ∙ ap (λ (z : ℕ). z ∷ drop (suc i) row) e)
            (made_root w v row (drop (suc i) row) x P H M v₁ p u (K M.left (made_left w v row (drop (suc i) row) x P H M fewer)));
        len = root_len v₁ p u x ∙ l ∙ G.len;
      }

-- one entry further down
pub sown_down : {w row v : List ℕ} {x i : ℕ} → 0 < i → Sown w row v x i → Sown w row v x (suc (i - 1))
sown_down {w} {row} {v} {x} {i} h G = subst (λ (z : ℕ). Sown w row v x z) (omega arith) G

-- at the first entry all is made
pub sown_done : {w row y : List ℕ} {i : ℕ} → i ≤ 0 → Asides w row (planted (drop i row)) (length (drop i row)) y → Asides w row (planted row) (length row) y
sown_done {w} {row} {y} {i} h A =
    let e : i ≡ 0 = omega arith in
    subst (λ (z : ℕ). Asides w row (planted (drop z row)) (length (drop z row)) y) e A
