-- The numbers from a on, each once; a room whose nodes are 1 to C.
use mathlib.Core.Path.{◌≡◌, refl, subst}
use Prim.Native.Nat.{ℕ, zero, suc, ◌+◌, ◌<◌, ◌≤◌}
use native.Mathlib.Omega.{arith}
use native.Mathlib.Decide.{ℕ_discrete}
use Rattle.forest.specs.Trees.{one, each}
use Rattle.forest.specs.Pools.{run}
use Rattle.forest.proofs.Frame.{one-self, one-other}

-- a number below them is none of them
run-below : (q a k : ℕ) → q < a → run (one q) a k ≡ 0
run-below q a zero h = refl
run-below q a (suc k) h = omega (arith, one-other q a (λ e. omega arith), run-below q (suc a) k (omega arith))

-- nor is one above them
pub run-above : (q a k : ℕ) → a + k ≤ q → run (one q) a k ≡ 0
run-above q a zero h = refl
run-above q a (suc k) h = omega (arith, one-other q a (λ e. omega arith), run-above q (suc a) k (omega arith))

-- none stands there twice
pub run-once : (q a k : ℕ) → run (one q) a k ≤ 1
run-once q a zero = omega arith
run-once q a (suc k) = go (ℕ_discrete q a) (run-once q (suc a) k)
  where
    go : Dec (q ≡ a) → run (one q) (suc a) k ≤ 1 → one q a + run (one q) (suc a) k ≤ 1
    go (yes e) ih = let o : one q a ≡ 1 = subst (λ (z : ℕ). one q z ≡ 1) e (one-self q) in omega (arith, run-below q (suc a) k (omega arith))
    go (no n) ih = omega (arith, one-other q a n)

-- each of them does
pub run_in : (q a k : ℕ) → a ≤ q → q < a + k → run (one q) a k ≡ 1
run_in q a zero h l = absurd (omega arith)
run_in q a (suc k) h l = go (ℕ_discrete q a) (λ g. run_in q (suc a) k g (omega arith))
  where
    go : Dec (q ≡ a) → (suc a ≤ q → run (one q) (suc a) k ≡ 1) → one q a + run (one q) (suc a) k ≡ 1
    go (yes e) ih = let o : one q a ≡ 1 = subst (λ (z : ℕ). one q z ≡ 1) e (one-self q) in omega (arith, run-below q (suc a) k (omega arith))
    go (no n) ih = omega (arith, one-other q a n, ih (omega arith))

-- there are k of them
pub run-each : (a k : ℕ) → run each a k ≡ k
run-each a zero = refl
run-each a (suc k) = omega (arith, run-each (suc a) k)
