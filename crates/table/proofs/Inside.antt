-- When one set is inside another; and a set below a higher bound.
use Prim.Native.Nat.{ℕ, zero, suc, ◌/◌, ◌%◌, ◌^◌, ◌<◌, ◌≤◌}
use native.Mathlib.Nat.{lt_of_lt_of_le}
use native.Mathlib.Omega.{arith}
use native.Mathlib.Decide.{ℕ_discrete}
use mathlib.Core.Path.{◌≡◌, sym, ◌∙◌, subst}
use mathlib.Core.Bool.{Bool}
use lib.Bits.{bit_or, or_lt}
use lib.Dec.{eqb}
use lib.Pow.{pow_mono}
use Rattle.table.specs.Sets.{bit, In, SetOf}
use Rattle.table.specs.Tests.Tell.{Tells, tells_as, tells_eq}
use Rattle.table.proofs.Bits.{bit-lt, bit-or, half_bit, low_bit, or_left}

-- the same set below a higher bound, of a property of low numbers
pub set-wider : {P : ℕ → Type 0} {n m set : ℕ} → n ≤ m → ((k : ℕ) → P k → k < n) → SetOf P n set → SetOf P m set
set-wider le low h = record { below = lt_of_lt_of_le h.below (pow_mono le); holds = h.holds; shows = λ k l p. h.shows k (low k p) p }

-- numbers with the same bits are the same
bits_same : (n a b : ℕ) → a < 2 ^ n → b < 2 ^ n → ((k : ℕ) → bit a k ≡ bit b k) → a ≡ b
bits_same zero a b g h e = omega arith
bits_same (suc n) a b g h e =
    let half : a / 2 ≡ b / 2 = bits_same n (a / 2) (b / 2) (omega arith) (omega arith) (λ k. sym (half_bit a k) ∙ e (suc k) ∙ half_bit b k) in
    let low : a % 2 ≡ b % 2 = sym (low_bit a) ∙ e 0 ∙ low_bit b in
    omega arith

-- all of the one are in the other exactly if the other is their union
pub inside : (n a b : ℕ) → a < 2 ^ n → b < 2 ^ n → Tells (eqb (bit_or a b) b) ((k : ℕ) → In a k → In b k)
inside n a b g h = tells_as to from (tells_eq (bit_or a b) b)
  where
    to : bit_or a b ≡ b → (k : ℕ) → In a k → In b k
    to e k i = subst (λ s. In s k) e (or_left a b k i)

    from : ((k : ℕ) → In a k → In b k) → bit_or a b ≡ b
    from f = bits_same n (bit_or a b) b (or_lt n a b g h) h (λ k. same k (ℕ_discrete (bit a k) 1))
      where
        same : (k : ℕ) → Dec (bit a k ≡ 1) → bit (bit_or a b) k ≡ bit b k
        same k (yes i) = let j = f k i in omega (arith, bit-or a b k)
        same k (no i) = omega (arith, bit-or a b k, bit-lt a k, bit-lt b k)

-- so of sets that properties of low numbers describe
pub set_inside : {P Q : ℕ → Type 0} {n a b : ℕ} {t : Bool} → SetOf P n a → SetOf Q n b → ((k : ℕ) → P k → k < n) → ((k : ℕ) → Q k → k < n) →
    Tells t ((k : ℕ) → In a k → In b k) → Tells t ((k : ℕ) → P k → Q k)
set_inside g h low high = tells_as
    (λ f k p. h.holds k (f k (g.shows k (low k p) p)))
    (λ f k i. let q = f k (g.holds k i) in h.shows k (high k q) q)
