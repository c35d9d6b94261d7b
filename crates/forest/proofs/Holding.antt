-- What the parts' laws say of a held forest: its nodes, the shift phase, and trees set aside merged into it.
use mathlib.Core.Path.{◌≡◌, ◌∙◌, sym, ap, subst⁻¹}
use mathlib.Core.List.{List}
use Prim.Native.Nat.{ℕ, suc, ◌+◌, ◌*◌, ◌≤◌, ◌<◌}
use native.Mathlib.Omega.{arith}
use lib.ListN.{length}
use Rattle.theory.specs.Table.{Table}
use Rattle.theory.specs.Forest as Of
use Rattle.theory.specs.Forest.{Forest, join, grow, shift, Rising, bare}
use Rattle.forest.specs.Words.{stride, max_words, at, poke, Inside, poke-len, at_same, at_other}
use Rattle.forest.specs.Trees.{Tree, nil, erase, weigh, one, each, occ, size, Rep}
use Rattle.forest.specs.Pools.{Pool, run, pooled}
use Rattle.forest.specs.Joins.{Kept, Two, SomeTwo, Joined}
use Rattle.forest.specs.Grows.{Source, SomeSource, Grown, Grows}
use Rattle.forest.specs.Longs.{Plenty, SomePlenty, Aside, Asides}
use Rattle.forest.specs.Held.{Held, Beyond, Becomes, CanShift, SomeShift, Shifts, Settles, SomeExtend, Merges}
use Rattle.forest.proofs.Frame.{not_none, still, pool_still, kept_rep}
use Rattle.forest.proofs.Runs.{run-above, run-once, run-each}
use Rattle.forest.proofs.Taking.{zero_in}
use Rattle.forest.proofs.Sprouting.{pool_no_zero}
use Rattle.forest.proofs.Growing.{erase-size}

-- a tree has as many nodes as its forest
pub size_of : (t : Tree) {F : Forest} → erase t ≡ F → Of.size F ≡ size t
size_of t {F} e = ap (λ (z : Forest). Of.size z) (sym e) ∙ erase-size t

-- ---- nodes above C

-- what touches none of them keeps them
pub beyond_kept : (w v : List ℕ) (C j : ℕ) (touched : ℕ → ℕ) → Kept w v 0 j touched → ((q : ℕ) → C < q → touched q ≡ 0) → Beyond w v C
beyond_kept w v C j touched K z q i h l = K q i l (z q h) (λ e. absurd (omega arith)) (λ e. absurd (omega arith))

-- as does a store to node 0
pub beyond_poke : (w : List ℕ) (C j x : ℕ) → j < 4 → Beyond w (poke w 0 j x) C
beyond_poke w C j x h q i l m = at_other w 0 j x q i h m (λ e. absurd (omega arith))

-- one thing after the other
pub beyond_then : (w v u : List ℕ) (C : ℕ) → Beyond w v C → Beyond v u C → Beyond w u C
beyond_then w v u C a b q i h l = b q i h l ∙ a q i h l

-- ---- what is grown is held

-- trees f and `to` and the store are all the nodes
abbrev pub All : ℕ → Tree → Tree → Pool → Type 0
All C f to P = (m : ℕ → ℕ) → weigh m f + weigh m to + pooled m P ≡ run m 1 C

-- what is grown is held, and no other node has changed
pub grown_held : (w v : List ℕ) (C : ℕ) (t : Table) (y d : ℕ) (f to : Tree) (P : Pool) (R : Forest) → at w 0 2 ≡ 0 →
    occ 0 f + occ 0 to + pooled (one 0) P ≡ 0 → All C f to P → stride * suc C ≤ length w → length w ≤ max_words →
    grow t y d (erase f) (erase to) ≡ R → Grown w v t y d f to P → Becomes w v C R
grown_held w v C t y d f to P R a z o l m e G = record {
  held = record {
    tree = G.tree;
    P = G.left;
    rep = G.rep;
    is = G.means ∙ e;
    pool = G.pool;
    whole = λ k. omega (arith, o k, G.weight k);
    fits = omega (arith, G.len);
    aside = G.kept 0 2 (omega arith) z (λ i j. omega arith) (λ i. (omega arith, omega arith)) ∙ a;
    words = omega (arith, G.len);
  };
  beyond = beyond_kept w v C 1 _ G.kept (λ q h. omega (arith, o (one q), run-above q 1 C (omega arith)));
}

-- ---- a held forest

module _ (w : List ℕ) (C : ℕ) (F : Forest) (H : Held w C F) where
  -- each node stands once, in the forest or in the store
  pub held_once : (q : ℕ) → occ q H.tree + pooled (one q) H.P ≤ 1
  held_once q = omega (arith, H.whole (one q), run-once q 1 C)

  -- there are C in all
  pub held_total : size H.tree + pooled each H.P ≡ C
  held_total = omega (arith, H.whole each, run-each 1 C)

  -- node 0 is none of them
  pub off_0 : occ 0 H.tree + pooled (one 0) H.P ≡ 0
  off_0 = omega (arith, not_none w H.tree (at w 0 1) H.rep, pool_no_zero w H.P H.pool)

  -- node 0's words are in the room
  pub held_in : Inside w 0
  held_in = zero_in H.pool

  -- ---- a shift

  abbrev w₁ : List ℕ
  w₁ = poke w 0 1 0

  -- all trees stand ready to be grown, and there are no roots
  shift_source : (row : List ℕ) (m : ℕ) (t : Table) (y : ℕ) → CanShift row C m t y F → Source w₁ m (at w 0 1) H.tree nil H.P
  shift_source row m t y c =
      let e = poke-len w 0 1 0 in
      record {
        source = still w 0 1 0 H.tree (at w 0 1) (omega arith) (omega (arith, off_0)) H.rep;
        roots = at_same w 0 1 0 (omega arith) held_in;
        pool = pool_still w 0 1 0 H.P (omega arith) (omega arith) (omega (arith, off_0)) H.pool;
        once = λ q. omega (arith, held_once q);
        rising = subst⁻¹ (λ (z : Forest). Rising m z) H.is c.rising;
        rising_to = bare;
        fits = omega (arith, held_total, H.fits, e);
        enough = omega (arith, held_total, c.room, size_of H.tree H.is);
        words = omega (arith, H.words, e);
      }

-- what growing asks at a shift
pub shift_some : {w row : List ℕ} → (S : SomeShift w row) → SomeSource (poke w 0 1 0) row (at w 0 1)
shift_some {w} {row} S = record {
  m = S.m;
  t = S.t;
  y = S.y;
  f = S.held.tree;
  to = nil;
  P = S.held.P;
  goes = S.can.goes;
  holds = shift_source w S.C S.F S.held row S.m S.t S.y S.can;
}

-- what it leaves is the shift
pub shift_shifts : (w row v : List ℕ) → Grows (poke w 0 1 0) row 0 (at w 0 1) v → Shifts w row v
shift_shifts w row v G C m t y F H c =
    let e = poke-len w 0 1 0 in
    let B = grown_held (poke w 0 1 0) v C t y 0 H.tree nil H.P (shift t y F)
    (at_other w 0 1 0 0 2 (omega arith) (omega arith) (λ i j. omega arith) ∙ H.aside)
    (omega (arith, off_0 w C F H)) (λ k. omega (arith, H.whole k)) (omega (arith, H.fits, e)) (omega (arith, H.words, e))
    (ap (λ (z : Forest). shift t y z) H.is)
    (G m t y H.tree nil H.P c.goes (shift_source w C F H row m t y c)) in
    record { held = B.held; beyond = beyond_then w (poke w 0 1 0) v C (beyond_poke w C 1 0 (omega arith)) B.beyond }

-- ---- nodes for trees to be set aside

module _ (w row : List ℕ) (C : ℕ) (F : Forest) (H : Held w C F) (c : Of.size F + length row ≤ C) where
  -- there are nodes for them
  extend_plenty : Plenty w row H.P
  extend_plenty = record {
    pool = H.pool;
    once = λ q. omega (arith, held_once w C F H q);
    enough = omega (arith, held_total w C F H, size_of H.tree H.is);
    fits = omega (arith, held_total w C F H, H.fits);
    words = H.words;
  }

-- ---- trees set aside, merged with the roots

module _ (w : List ℕ) (C : ℕ) (F : Forest) (H : Held w C F) (G : Forest) (k : ℕ) (v : List ℕ) (S : Aside w v G k H.P) where
  -- node 0 is none of the trees set aside, nor in the store
  no_0 : occ 0 S.tree + pooled (one 0) S.left ≡ 0
  no_0 = omega (arith, not_none v S.tree (at v 0 2) S.rep, pool_no_zero v S.left S.pool)

  -- the roots are where they were
  roots_kept : at v 0 1 ≡ at w 0 1
  roots_kept = S.kept 0 1 (omega arith) (pool_no_zero w H.P H.pool) (λ i j. omega arith) (λ i. (omega arith, omega arith))

  -- they stand beside the roots, apart
  aside_two : Two v 0 1 (at v 0 1) (at v 0 2) H.tree S.tree S.left
  aside_two =
      let z = not_none w H.tree (at w 0 1) H.rep in
      record {
        first = subst⁻¹ (λ (x : ℕ). Rep v x H.tree) roots_kept
            (kept_rep w v 0 2 (λ m. pooled m H.P) S.len S.kept H.tree (at w 0 1) (λ q. held_once w C F H q) z H.rep);
        second = S.rep;
        pool = S.pool;
        once = λ q. omega (arith, held_once w C F H q, S.weight (one q));
        apart = omega (arith, no_0, z);
        inside = omega (arith, S.len, held_in w C F H);
        link = (omega arith, omega arith);
        fits = omega (arith, held_total w C F H, H.fits, S.weight each, S.len);
        words = omega (arith, H.words, S.len);
      }

  -- no node above C has changed
  aside_beyond : (u : List ℕ) → Joined v u 0 1 H.tree S.tree S.left → Beyond w (poke u 0 2 0) C
  aside_beyond u J =
      let none : (q : ℕ) → C < q → occ q H.tree + pooled (one q) H.P ≡ 0
      = λ q h. omega (arith, H.whole (one q), run-above q 1 C (omega arith)) in
      beyond_then w v (poke u 0 2 0) C (beyond_kept w v C 2 (λ q. pooled (one q) H.P) S.kept (λ q h. omega (arith, none q h)))
      (beyond_then v u (poke u 0 2 0) C (beyond_kept v u C 1 (λ q. occ q H.tree + occ q S.tree + pooled (one q) S.left) J.kept
      (λ q h. omega (arith, none q h, S.weight (one q)))) (beyond_poke u C 2 0 (omega arith)))

  -- the join of both is held
  aside_held : (u : List ℕ) → Joined v u 0 1 H.tree S.tree S.left →
      Becomes w (poke u 0 2 0) C (join F G)
  aside_held u J =
      let e = poke-len u 0 2 0 in
      let n = not_none u J.tree (at u 0 1) J.rep in
      record {
        held = record {
          tree = J.tree;
          P = J.left;
          rep = subst⁻¹ (λ (x : ℕ). Rep (poke u 0 2 0) x J.tree) (at_other u 0 2 0 0 1 (omega arith) (omega arith) (λ i j. omega arith))
              (still u 0 2 0 J.tree (at u 0 1) (omega arith) n J.rep);
          is = J.means ∙ (λ i. join (H.is i) (S.means i));
          pool = pool_still u 0 2 0 J.left (omega arith) (omega arith) (pool_no_zero u J.left J.pool) J.pool;
          whole = λ k. omega (arith, H.whole k, S.weight k, J.weight k);
          fits = omega (arith, H.fits, S.len, J.len, e);
          aside = at_same u 0 2 0 (omega arith) (omega (arith, zero_in J.pool));
          words = omega (arith, H.words, S.len, J.len, e);
        };
        beyond = aside_beyond u J;
      }

-- what the making of the trees asks
pub extend_some : {w row : List ℕ} → SomeExtend w row → SomePlenty w row
extend_some {w} {row} S = record { P = S.held.P; has = extend_plenty w row S.C S.F S.held S.room }

-- what the merging asks after it
pub extend_pair : {w row v : List ℕ} (G : Forest) (k : ℕ) → SomeExtend w row → Asides w row G k v → SomeTwo v 0 1 (at v 0 1) (at v 0 2)
extend_pair {w} {row} {v} G k S A =
    let g = A S.held.P (extend_plenty w row S.C S.F S.held S.room) in
    record { f = S.held.tree; g = g.tree; P = g.left; two = aside_two w S.C S.F S.held G k v g }

-- what it leaves
pub extend_merges : (w row v x : List ℕ) (G : Forest) (k : ℕ) → Asides w row G k v → Settles v x → Merges w row G x
extend_merges w row v x G k A (u, J, e) C F H c =
    let g = A H.P (extend_plenty w row C F H c) in
    subst⁻¹ (λ (l : List ℕ). Becomes w l C (join F G)) e
    (aside_held w C F H G k v g u (J H.tree g.tree g.left (aside_two w C F H G k v g)))
