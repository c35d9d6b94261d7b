-- Counting the states below m that pass a test (`tally`), and why a rising forest has few roots and few children: its roots differ, so
-- they are at most m; and where one state cannot be led to two roots, the children that are led to their own root differ too.
use Prim.Native.Nat.{ℕ, zero, suc, ◌+◌, ◌≤◌, ◌<◌}
use Rattle.std.specs.Prelude.{◌≡◌, Bool, true, false, ◌||◌, ◌&&◌, eqb}
use Rattle.std.proofs.Math.Path.{subst}
use Rattle.std.proofs.Math.Logic.{⊎_elim}
use Rattle.std.proofs.Math.Dec.{T, eqb_refl}
use Rattle.std.proofs.Common.{eqb→eq, le_trans}
use native.Mathlib.Omega.{arith}
use Rattle.std.proofs.Math.Decide.{ℕ_discrete}
use Rattle.theory.proofs.Basics.{is_true_or, is_true_and, is_true_both}
use Rattle.theory.specs.Forest.{Forest, nothing, tree, From, root, Rising, bare, rises}
use Rattle.theory.specs.Forest.Sizes.{All, width}
use Rattle.theory.proofs.Forest.Sizes.{parts, from_weaken}
use Rattle.theory.specs.Forest.Counts.{one_if, tally, passing, pairs}

-- ---- the number of states below m that pass

one_if-le : (b : Bool) → one_if b ≤ 1
one_if-le true = omega arith
one_if-le false = omega arith

one_if-mono : (b c : Bool) → (T b → T c) → one_if b ≤ one_if c
one_if-mono true true f = omega arith
one_if-mono true false f = absurd (f tt)
one_if-mono false c f = omega arith

one_if-strict : (b c : Bool) → (T b → ⊥) → T c → suc (one_if b) ≤ one_if c
one_if-strict true c f t = absurd (f tt)
one_if-strict false true f t = omega arith
one_if-strict false false f t = absurd t

one_if-or : (b c : Bool) → (T b → T c → ⊥) → one_if b + one_if c ≤ one_if (b || c)
one_if-or true true f = absurd (f tt tt)
one_if-or true false f = omega arith
one_if-or false c f = omega arith

pub tally-le : (n : ℕ) (q : ℕ → Bool) → tally n q ≤ n
unfolding tally
tally-le zero q = omega arith
tally-le (suc n) q = let i = tally-le n q in omega (arith, one_if-le (q n))

-- a test that passes less often
pub tally-mono : (n : ℕ) (p q : ℕ → Bool) → ((u : ℕ) → T (p u) → T (q u)) → tally n p ≤ tally n q
unfolding tally
tally-mono zero p q f = omega arith
tally-mono (suc n) p q f = let i = tally-mono n p q f in omega (arith, one_if-mono (p n) (q n) (f n))

-- and one that passes no more at some place
pub tally-strict : (n : ℕ) (p q : ℕ → Bool) → ((u : ℕ) → T (p u) → T (q u)) → (s : ℕ) → s < n → (T (p s) → ⊥) → T (q s) → suc (tally n p) ≤ tally n q
unfolding tally
tally-strict zero p q f s h a b = omega arith
tally-strict (suc n) p q f s h a b = go (ℕ_discrete s n) (λ h'. tally-strict n p q f s h' a b)
  where
    go : Dec (s ≡ n) → (s < n → suc (tally n p) ≤ tally n q) → suc (one_if (p n) + tally n p) ≤ one_if (q n) + tally n q
    go (yes e) less =
        let l = one_if-strict (p n) (q n) (rw e at a) (rw e at b) in
        omega (arith, tally-mono n p q f)
    go (no d) less =
        let l = less (omega arith) in
        omega (arith, one_if-mono (p n) (q n) (f n))

-- two tests that never both pass
tally-or : (n : ℕ) (p q : ℕ → Bool) → ((u : ℕ) → T (p u) → T (q u) → ⊥) → tally n p + tally n q ≤ tally n (λ u. p u || q u)
unfolding tally
tally-or zero p q f = omega arith
tally-or (suc n) p q f = let i = tally-or n p q f in omega (arith, one_if-or (p n) (q n) (f n))

-- one state passes
tally-one : (n s : ℕ) (q : ℕ → Bool) → s < n → T (q s) → 1 ≤ tally n q
tally-one n s q h t = let l = tally-strict n (λ u. false) q (λ u x. absurd x) s h (λ x. x) t in omega arith

-- ---- the roots of a forest that pass

-- whether a state is one of them
root_in : (ℕ → Bool) → Forest → ℕ → Bool
root_in q nothing c = false
root_in q (tree s k b) c = (eqb s c && q s) || root_in q b c

-- what holds of every root holds of such a state
at_root : (P : ℕ → Type 0) (q : ℕ → Bool) (F : Forest) (c : ℕ) → All (λ s k. P s) F → T (root_in q F c) → P c
unfolding root_in
at_root P q nothing c x t = absurd t
at_root P q (tree s k b) c x t =
    ⊎_elim (λ e. subst P (eqb→eq s c (is_true_and (eqb s c) (q s) e).0) x.0) (λ e. at_root P q b c x.1 e) (is_true_or (eqb s c && q s) (root_in q b c) t)

-- a lower bound of the first root is one of all the roots
pub from_all : {m n : ℕ} {f : Forest} → From n f → Rising m f → All (λ s k. n ≤ s) f
from_all l bare = tt
from_all {n = n} l (rises {s = s} {beside = b} a c d e) = let h = low l in (h, from_all (from_weaken (omega arith) c) e)
  where
    low : {s : ℕ} {k b : Forest} → From n (tree s k b) → n ≤ s
    low (root h) = h

one_here : (m s : ℕ) (v : Bool) → s < m → one_if v ≤ tally m (λ c. eqb s c && v)
one_here m s true l = tally-one m s (λ c. eqb s c && true) l (is_true_both (eqb s s) true (eqb_refl s) tt)
one_here m s false l = omega arith

-- in a rising forest they differ
passing-roots : (q : ℕ → Bool) (m : ℕ) (f : Forest) → Rising m f → passing q f ≤ tally m (root_in q f)
unfolding root_in
passing-roots q m nothing r = omega arith
passing-roots q m (tree s k b) r =
    let p = parts r in
    let i = passing-roots q m b p.beside in
    let here = one_here m s (q s) p.below in
    let apart = tally-or m (λ c. eqb s c && q s) (root_in q b) (λ c x y.
    let l = at_root (λ c. suc s ≤ c) q b c (from_all p.from p.beside) y in
    let e = eqb→eq s c (is_true_and (eqb s c) (q s) x).0 in omega arith) in
    omega arith

pub width-rising : (m : ℕ) (f : Forest) → Rising m f → width f ≤ m
width-rising m f r = le_trans (passing-roots (λ c. true) m f r) (tally-le m (root_in (λ c. true) f))

-- ---- the children that are led to their root, where no state is led to two

module _ (led : ℕ → ℕ → Bool) (single : (u v c : ℕ) → T (led u c) → T (led v c) → u ≡ v) (m : ℕ) where
  child_in : Forest → ℕ → Bool
  child_in nothing c = false
  child_in (tree s k b) c = root_in (led s) k c || child_in b c

  -- a root that passes is led to s
  is_led : (s c : ℕ) (k : Forest) → T (root_in (led s) k c) → T (led s c)
  unfolding root_in
  is_led s c nothing t = absurd t
  is_led s c (tree u k b) t =
      ⊎_elim (λ e. let (i, o) = is_true_and (eqb u c) (led s u) e in subst (λ n. T (led s n)) (eqb→eq u c i) o) (λ e. is_led s c b e)
      (is_true_or (eqb u c && led s u) (root_in (led s) b c) t)

  -- such a child is led to some root
  at_child : (Q : ℕ → Type 0) (F : Forest) (c : ℕ) → All (λ s k. Q s) F → T (child_in F c) → (u : ℕ) × T (led u c) × Q u
  unfolding child_in
  at_child Q nothing c y t = absurd t
  at_child Q (tree s k b) c y t =
      ⊎_elim (λ e. (s, is_led s c k e, y.0)) (λ e. at_child Q b c y.1 e) (is_true_or (root_in (led s) k c) (child_in b c) t)

  pairs-children : (f : Forest) → Rising m f → pairs led f ≤ tally m (child_in f)
  unfolding child_in
  pairs-children nothing r = omega arith
  pairs-children (tree s k b) r =
      let p = parts r in
      let i = pairs-children b p.beside in
      let here = passing-roots (led s) m k p.kids in
      let apart = tally-or m (root_in (led s) k) (child_in b) (λ c y z.
      let o = at_child (λ u. suc s ≤ u) b c (from_all p.from p.beside) z in
      let e = single s o.0 c (is_led s c k y) o.1 in
      let l = o.2 in omega arith) in
      omega arith

  pub pairs-le : (f : Forest) → Rising m f → pairs led f ≤ m
  pairs-le f r = le_trans (pairs-children f r) (tally-le m (child_in f))
