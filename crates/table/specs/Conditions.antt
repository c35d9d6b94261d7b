-- What the check of one condition answers: the lowest state that breaks it, and the laws of a loop that finds it.
use Rattle.std.specs.Prelude.{ℕ, ◌≤◌, ◌<◌, ◌≡◌, Bool, false, Option, None, Some, MatchOption}
use Rattle.std.proofs.Common.{arith}
use Rattle.theory.specs.Table.{Table, count}
use Rattle.table.specs.Checks.{Keeps, Broken, Lowest}
use Rattle.table.specs.Tests.Tell.{Tells, refutes}
pub mod Parts
pub mod Kept

-- the lowest state that breaks condition k; or none, where every state keeps it
abbrev pub LowestBreaker : Table → ℕ → Option ℕ → Type 0
LowestBreaker t k (Some s) = Lowest (Broken t k) s
LowestBreaker t k None = (s : ℕ) → s < count t → Keeps t k s

-- every state below r keeps condition k
abbrev pub KeptBelow : Table → ℕ → ℕ → Type 0
KeptBelow t k r = (s : ℕ) → s < r → Keeps t k s

-- a loop that comes to a state which breaks the condition has found the lowest
pub broken_here : (t : Table) (k : ℕ) {r : ℕ} → KeptBelow t k r → r < count t → (Keeps t k r → ⊥) → LowestBreaker t k (Some r)
broken_here t k h l n = record { has_it = (l, n); lowest = λ u b (c, breaks). breaks (h u b) }

-- a loop that comes to the end has found that all keep it
pub kept_all : (t : Table) (k : ℕ) {r : ℕ} → KeptBelow t k r → r ≡ count t → LowestBreaker t k None
kept_all t k h e s l = h s (omega arith)

-- a test of one state that fails has found one that breaks it
pub broken_told : (t : Table) (k : ℕ) {r : ℕ} {b : Bool} → KeptBelow t k r → r < count t → Tells b (Keeps t k r) → b ≡ false → LowestBreaker t k (Some r)
broken_told t k h l w e = broken_here t k h l (refutes w e)

-- a search over the states for the first that breaks the condition finds the lowest
pub found_lowest : (t : Table) (k n : ℕ) (r : Option ℕ) → n ≡ count t →
    MatchOption r ((s : ℕ) → 0 ≤ s → s < n → Keeps t k s)
    (λ i. (0 ≤ i) × (i < n) × (Keeps t k i → ⊥) × ((s : ℕ) → 0 ≤ s → s < i → Keeps t k s)) → LowestBreaker t k r
found_lowest t k n None e h = λ s l. h s (omega arith) (omega arith)
found_lowest t k n (Some i) e (_, l, breaks, kept) =
    broken_here t k (λ s b. kept s (omega arith) b) (omega arith) breaks
