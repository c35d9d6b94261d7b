-- The conditions one after the other: those before the k-th are kept, and the k-th is kept by all states or broken first by the lowest of them.
use Rattle.std.specs.Prelude.{ℕ, zero, suc, ◌<◌, ◌≡◌, None, Some}
use Rattle.std.proofs.Common.{arith, sym, subst}
use Rattle.std.proofs.Math.Decide.{ℕ_discrete}
use Rattle.theory.specs.Table.{Table, count}
use Rattle.table.specs.Checks.{Keeps, KeptBefore, FirstBroken}
use Rattle.table.specs.Conditions.{LowestBreaker}

-- before the first condition there is nothing to keep
pub kept_none : (t : Table) → KeptBefore t 1
kept_none t zero s l h = tt
kept_none t (suc k) s l h = absurd (omega arith)

-- one condition more is kept
pub kept_more : {t : Table} (k : ℕ) → KeptBefore t k → ((s : ℕ) → s < count t → Keeps t k s) → KeptBefore t (suc k)
kept_more {t} k h here l s m n = go (ℕ_discrete l k)
  where
    go : Dec (l ≡ k) → Keeps t l s
    go (yes e) = subst (λ j. Keeps t j s) (sym e) (here s n)
    go (no e) = h l s (omega arith) n

-- no state breaks the k-th
pub kept_next : {t : Table} (k : ℕ) → KeptBefore t k → LowestBreaker t k None → KeptBefore t (suc k)
kept_next k h b = kept_more k h b

-- a state breaks the k-th
pub first_broken_law : {t : Table} (k : ℕ) {r : ℕ} → KeptBefore t k → LowestBreaker t k (Some r) → FirstBroken t k r
first_broken_law k h b = record { state = b; before = h }
