-- Sets of numbers as one number each: k is in the set where bit k is 1.
use Rattle.std.specs.Prelude.{ℕ, ◌<◌, ◌^◌, ◌/◌, ◌%◌, ◌≡◌}

-- how many numbers a set of 64 bits can have
abbrev pub set_size : ℕ
set_size = 64

-- bit k of n
unfoldable pub bit : ℕ → ℕ → ℕ
bit n k = n / 2 ^ k % 2

-- the number is in the set
abbrev pub In : ℕ → ℕ → Type 0
In set k = bit set k ≡ 1

-- the set has exactly those numbers below n that have the property, and no others
pub record SetOf (P : ℕ → Type 0) (n set : ℕ) : Type 0 where
  pub below : set < 2 ^ n
  pub holds : (k : ℕ) → In set k → P k
  pub shows : (k : ℕ) → k < n → P k → In set k
