-- The one-node trees of a row's targets, state by state. Assumes nothing.
use mathlib.Core.Path.{◌≡◌, ◌∙◌, refl, ap, subst, subst⁻¹}
use mathlib.Core.Option.{Option, none, some}
use mathlib.Core.List.{List}
use Prim.Native.Nat.{ℕ, suc, ◌+◌, ◌-◌, ◌<◌, ◌≤◌}
use native.Mathlib.Omega.{arith}
use lib.ListN.{length, get_or}
use Rattle.theory.specs.Forest as Of
use Rattle.theory.specs.Forest.{Forest, nothing, tree, join}
use Rattle.theory.proofs.Forest.Sizes.{sum-join, inner-join, size-split}
use Rattle.forest.specs.Words.{at, Inside}
use Rattle.forest.specs.Trees.{nil, node, erase, one, each, occ, Rep}
use Rattle.forest.specs.Pools.{Pool, pooled}
use Rattle.forest.specs.Joins.{Two, SomeTwo, Joined, Joins}
use Rattle.forest.specs.Takes.{Left, SomeLeft, Took, Takes}
use Rattle.forest.specs.Grows.{rooted}
use Rattle.forest.specs.Longs.{leaves, Plenty, SomePlenty, Spread, Spreads}
use Rattle.forest.specs.Rows.{meant}
use Rattle.forest.proofs.Frame.{one-self, not_none, kept_rep}
use Rattle.forest.proofs.Taking.{zero_in}
use Rattle.forest.proofs.Sprouting.{pool_no_zero, root_len, root_kept, root_rep, root_pool, root_is, meant-none, meant-some}
use Rattle.forest.proofs.Growing.{erase-size}

-- a join is not larger than its two forests
pub size-join : (f g : Forest) → Of.size (join f g) ≤ Of.size f + Of.size g
size-join f g =
    omega (
      arith,
      size-split f,
      size-split g,
      size-split (join f g),
      inner-join f g,
      sum-join (λ s k. 1) (λ s k k'. omega arith) f g,
    )

-- an entry with a target adds its tree
leaves-some : (h : ℕ → Option ℕ) (i k u : ℕ) → h i ≡ some u → join (tree u nothing nothing) (leaves h (suc i) k) ≡ leaves h i (suc k)
unfolding leaves
leaves-some h i k u e = rw e refl

-- one without adds none
leaves_none : (h : ℕ → Option ℕ) (i k : ℕ) → h i ≡ none → leaves h (suc i) k ≡ leaves h i (suc k)
unfolding leaves join
leaves_none h i k e = rw e refl

-- nothing is there yet
none_spread : (w row : List ℕ) (i : ℕ) → at w 0 2 ≡ 0 → Spreads w row i 0 w
unfolding leaves
none_spread w row i e P H =
    record {
      tree = nil;
      left = P;
      rep = e;
      means = refl;
      few = omega arith;
      pool = H.pool;
      weight = λ m. omega arith;
      kept = λ q i l h n o. refl;
      len = refl;
    }

module _ (w v row : List ℕ) (i k : ℕ) (all : suc i + k ≡ length row) (P : Pool) (H : Plenty w row P) (S : Spread w v row (suc i) k P) where
  -- an entry that is 0 adds nothing
  pub skip_spread : get_or row i 0 ≡ 0 → Spread w v row i (suc k) P
  skip_spread e =
      record {
        tree = S.tree;
        left = S.left;
        rep = S.rep;
        means = S.means ∙ leaves_none (meant row) i k (meant-none row i e);
        few = omega (arith, S.few);
        pool = S.pool;
        weight = S.weight;
        kept = S.kept;
        len = S.len;
      }

  -- there is a node for one more tree
  pub more_left : Left v S.left
  more_left =
      record {
        pool = S.pool;
        once = λ q. omega (arith, H.once q, S.weight (one q));
        some = omega (arith, H.enough, S.weight each, S.few);
        words = omega (arith, H.words, S.len);
      }

  module _ (v₁ : List ℕ) (p u : ℕ) (K : Took v v₁ p S.left) where
    -- the words with the new tree
    abbrev v₂ : List ℕ
    v₂ = rooted v₁ p u 0

    -- its place stands nowhere else
    off_p : occ p S.tree + pooled (one p) K.left ≡ 0
    off_p = omega (arith, H.once p, S.weight (one p), one-self p, K.weight (one p))

    -- it is not node 0
    p≢0 : 0 ≡ p → ⊥
    p≢0 e = omega (arith, K.live)

    -- node 0 is not in the store
    off_0 : pooled (one 0) S.left ≡ 0
    off_0 = pool_no_zero v S.left S.pool

    -- the trees set aside are where they were
    list₁ : at v₂ 0 2 ≡ at v 0 2
    list₁ = root_kept v₁ p u 0 0 2 (omega arith) p≢0 ∙ K.kept 0 2 (omega arith) off_0 (λ e z. omega arith) (λ e. (omega arith, omega arith))

    -- the new tree and those set aside stand ready to be joined
    pub more_two : Two v₂ 0 2 p (at v₂ 0 2) (node p u nil nil) S.tree K.left
    more_two =
        let l = root_len v₁ p u 0 in
        record {
          first = root_is v₁ p u 0 nil K.live K.inside refl refl;
          second =
              subst⁻¹ (λ (z : ℕ). Rep v₂ z S.tree) list₁
              (root_rep v₁ p u 0 S.tree (at v 0 2) (omega (arith, off_p))
              (kept_rep v v₁ 0 3 (λ m. pooled m S.left) K.len K.kept S.tree (at v 0 2)
              (λ q. omega (arith, H.once q, S.weight (one q))) (not_none v S.tree (at v 0 2) S.rep) S.rep));
          pool = root_pool v₁ p u 0 K.left K.live (omega (arith, off_p)) K.pool;
          once = λ q. omega (arith, H.once q, S.weight (one q), K.weight (one q));
          apart = omega (arith, off_0, K.weight (one 0), not_none v S.tree (at v 0 2) S.rep);
          inside = omega (arith, l, K.len, zero_in S.pool);
          link = (omega arith, omega arith);
          fits = omega (arith, H.fits, S.weight each, K.weight each, l, K.len, S.len);
          words = omega (arith, H.words, l, K.len, S.len);
        }

    -- then the trees are one more
    pub more_spread : meant row i ≡ some u → (x : List ℕ) → Joined v₂ x 0 2 (node p u nil nil) S.tree K.left → Spread w x row i (suc k) P
    more_spread e x J =
        let a = erase-size J.tree in
        let b = erase-size S.tree in
        let c : Of.size (erase J.tree) ≤ Of.size (tree u nothing nothing) + Of.size (erase S.tree) = subst⁻¹ (λ (z : Forest). Of.size z ≤ Of.size (tree u nothing nothing) + Of.size (erase S.tree)) J.means (size-join (tree u nothing nothing) (erase S.tree)) in
        record {
          tree = J.tree;
          left = J.left;
          rep = J.rep;
          means = J.means ∙ ap (λ (z : Forest). join (tree u nothing nothing) z) S.means ∙ leaves-some (meant row) i k u e;
          few = omega (arith, S.few, erase-size (node p u nil nil));
          pool = J.pool;
          weight = λ m. omega (arith, J.weight m, K.weight m, S.weight m);
          kept =
              λ q i l h n o.
              J.kept q i l (omega (arith, S.weight (one q), K.weight (one q))) n o
              ∙ root_kept v₁ p u 0 q i l (λ z. not_p q h z)
              ∙ K.kept q i l (omega (arith, S.weight (one q))) (λ z x. let y = o z in omega arith) o
              ∙ S.kept q i l h n o;
          len = J.len ∙ root_len v₁ p u 0 ∙ K.len ∙ S.len;
        }
      where
        not_p : (q : ℕ) → pooled (one q) P ≡ 0 → q ≡ p → ⊥
        not_p q h z = let o : one q p ≡ 1 = subst (λ (r : ℕ). one q r ≡ 1) z (one-self q) in omega (arith, K.weight (one q), S.weight (one q))

-- the loop's invariant
pub record Goes (w row v : List ℕ) (i : ℕ) : Type 0 where
  pub done : ℕ
  pub all : i + done ≡ length row
  pub some : SomePlenty w row
  pub spread : Spreads w row i done v
  pub len : length v ≡ length w

-- at first none is made
pub begins : (w row : List ℕ) → SomePlenty w row → at w 0 2 ≡ 0 → Goes w row w (length row)
begins w row S e = record { done = 0; all = omega arith; some = S; spread = none_spread w row (length row) e; len = refl }

module _ {w row v : List ℕ} {i : ℕ} (G : Goes w row v (suc i)) where
  -- a turn at an entry that is 0
  pub skips : get_or row i 0 ≡ 0 → Goes w row v i
  skips e =
      record {
        done = suc G.done;
        all = omega (arith, G.all);
        some = G.some;
        spread = λ P H. skip_spread w v row i G.done G.all P H (G.spread P H) e;
        len = G.len;
      }

  -- what the taking of a node asks
  pub goes_left : SomeLeft v
  goes_left =
      let Q = G.some in
      let S = G.spread Q.P Q.has in
      record { P = S.left; has = more_left w v row i G.done G.all Q.P Q.has S }

  -- the node taken is in the room
  pub goes_took : (v₁ : List ℕ) (p : ℕ) → Takes v p v₁ → Inside v₁ p × (length v₁ ≡ length v)
  goes_took v₁ p K =
      let Q = G.some in
      let S = G.spread Q.P Q.has in
      let k = K S.left (more_left w v row i G.done G.all Q.P Q.has S) in (k.inside, k.len)

  -- what the join asks
  pub goes_two : (v₁ : List ℕ) (p u : ℕ) → Takes v p v₁ → SomeTwo (rooted v₁ p u 0) 0 2 p (at (rooted v₁ p u 0) 0 2)
  goes_two v₁ p u K =
      let Q = G.some in
      let S = G.spread Q.P Q.has in
      let k = K S.left (more_left w v row i G.done G.all Q.P Q.has S) in
      record { f = node p u nil nil; g = S.tree; P = k.left; two = more_two w v row i G.done G.all Q.P Q.has S v₁ p u k }

  -- a turn at an entry with a target
  pub grows_on : (u : ℕ) → get_or row i 0 ≡ u + 1 → (v₁ : List ℕ) (p : ℕ) → Takes v p v₁ → (x : List ℕ) →
      Joins (rooted v₁ p u 0) 0 2 p (at (rooted v₁ p u 0) 0 2) x → length x ≡ length v → Goes w row x i
  grows_on u e v₁ p K x J l =
      record {
        done = suc G.done;
        all = omega (arith, G.all);
        some = G.some;
        spread =
            λ P H.
            let S = G.spread P H in
            let k = K S.left (more_left w v row i G.done G.all P H S) in
            more_spread w v row i G.done G.all P H S v₁ p u k (meant-some row i u e) x
            (J (node p u nil nil) S.tree k.left (more_two w v row i G.done G.all P H S v₁ p u k));
        len = l ∙ G.len;
      }

-- one entry further down
pub goes_down : {w row v : List ℕ} {i : ℕ} → 0 < i → Goes w row v i → Goes w row v (suc (i - 1))
goes_down {w} {row} {v} {i} h G = subst (λ (z : ℕ). Goes w row v z) (omega arith) G

-- at the first entry all are made
pub goes_done : {w row v : List ℕ} {i : ℕ} → i ≤ 0 → Goes w row v i → Spreads w row 0 (length row) v
goes_done {w} {row} {v} {i} h G P H =
    let e : i ≡ 0 = omega arith in
    let d : G.done ≡ length row = omega (arith, G.all) in
    subst (λ (z : ℕ). Spread w v row 0 z P) d (subst (λ (z : ℕ). Spread w v row z G.done P) e (G.spread P H))
