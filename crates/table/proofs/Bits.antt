-- Laws of sets as numbers: the bits of a union and of a set of one, the lowest number in a set, and the lowest that is not.
use Prim.Native.Nat.{ℕ, zero, suc, ◌+◌, ◌-◌, ◌*◌, ◌/◌, ◌%◌, ◌^◌, ◌<◌, ◌≤◌, max, min}
use native.Mathlib.Nat.{one-mul, add-zero, mod-lt, lt_of_lt_of_le, le_of_suc-le-suc, not-suc-le-zero, div-one, div-eq_of_lt, zero-div}
use native.Mathlib.Numerals.{add-one, one-add}
use native.Mathlib.Decide.{ℕ_discrete, dec_lt}
use native.Mathlib.Omega.{arith}
use mathlib.Core.Path.{◌≡◌, ◌∙◌, refl, sym, ap}
use mathlib.Core.Logic.{◌⊎◌, inl, inr}
use lib.Arith.{digits_mod}
use lib.Bits.{bit_or, bit_and, or_step, or_shr, and_step, and_shr, or_add_and, and_le_r}
use lib.Count.{count_trailing_zeros, under}
use lib.Dec.{lit<}
use lib.Pow.{high, low, field, mod-mod-pow, shr-shr, pow_mono, pow_pos, pow-lt}
use Rattle.table.specs.Sets.{bit, In}

-- ---- one bit

-- a remainder by two is 0 or 1
two_lt : (n : ℕ) → n % 2 < 2
two_lt n = mod-lt n (lit< tt)

-- a bit is 0 or 1
pub bit-lt : (n k : ℕ) → bit n k < 2
unfolding bit
bit-lt n k = two_lt (n / 2 ^ k)

-- in the set or not
pub dec_in : (set k : ℕ) → Dec (In set k)
dec_in set k = ℕ_discrete (bit set k) 1

-- ---- unions

-- a bit of a union
pub bit-or : (a b k : ℕ) → bit (bit_or a b) k ≡ max (bit a k) (bit b k)
unfolding bit
bit-or a b k =
    ap (λ (n : ℕ). n % 2) (or_shr a b k ∙ or_step (a / 2 ^ k) (b / 2 ^ k)) ∙
    digits_mod (bit_or (a / 2 ^ k / 2) (b / 2 ^ k / 2)) (omega (arith, two_lt (a / 2 ^ k), two_lt (b / 2 ^ k)))

-- a bit of what two sets share
pub bit-and : (a b k : ℕ) → bit (bit_and a b) k ≡ min (bit a k) (bit b k)
unfolding bit
bit-and a b k =
    ap (λ (n : ℕ). n % 2) (and_shr a b k ∙ and_step (a / 2 ^ k) (b / 2 ^ k)) ∙
    digits_mod (bit_and (a / 2 ^ k / 2) (b / 2 ^ k / 2)) (omega (arith, two_lt (a / 2 ^ k), two_lt (b / 2 ^ k)))

-- what is in the one is in the union
pub or_left : (a b k : ℕ) → In a k → In (bit_or a b) k
or_left a b k h = omega (arith, bit-or a b k, bit-lt b k)

-- and what is in the other
pub or_right : (a b k : ℕ) → In b k → In (bit_or a b) k
or_right a b k h = omega (arith, bit-or a b k, bit-lt a k)

-- and nothing else
pub or_cases : (a b k : ℕ) → In (bit_or a b) k → In a k ⊎ In b k
or_cases a b k h = go (dec_in a k)
  where
    go : Dec (In a k) → In a k ⊎ In b k
    go (yes i) = inl i
    go (no n) = inr (omega (arith, bit-or a b k, bit-lt a k, bit-lt b k))

-- a union is no lower a number
pub or_grows : (a b : ℕ) → a ≤ bit_or a b
or_grows a b = omega (arith, or_add_and a b, and_le_r a b)

-- what two sets share is in both
pub and_both : (a b k : ℕ) → In (bit_and a b) k → In a k × In b k
and_both a b k h = (omega (arith, bit-and a b k, bit-lt a k, bit-lt b k), omega (arith, bit-and a b k, bit-lt a k, bit-lt b k))

-- and what is in both they share
pub both_and : (a b k : ℕ) → In a k → In b k → In (bit_and a b) k
both_and a b k g h = omega (arith, bit-and a b k)

-- ---- sets of one, and sets below a bound

-- a digit on top of n bits: its own bit
bit-top : (d n r : ℕ) → r < 2 ^ n → bit (d * 2 ^ n + r) n ≡ d % 2
unfolding bit
bit-top d n r h = ap (λ (x : ℕ). x % 2) (high d n h)

-- a bit by the digits up to it
bit-mod : (x k : ℕ) → bit x k ≡ x % 2 ^ (1 + k) / 2 ^ k
unfolding bit
bit-mod x k = sym (field x 1 k)

-- the digits below the top one do not hang on it
cut : (d n r k : ℕ) → r < 2 ^ n → k < n → (d * 2 ^ n + r) % 2 ^ (1 + k) ≡ r % 2 ^ (1 + k)
cut d n r k h lt =
    let e : (n - (1 + k)) + (1 + k) ≡ n = omega arith in
    sym (mod-mod-pow (d * 2 ^ n + r) (n - (1 + k)) (1 + k)) ∙ ap (λ (j : ℕ). (d * 2 ^ n + r) % 2 ^ j % 2 ^ (1 + k)) e ∙
    ap (λ (x : ℕ). x % 2 ^ (1 + k)) (low d n h)

-- and the bits below it
bit_below : (d n r k : ℕ) → r < 2 ^ n → k < n → bit (d * 2 ^ n + r) k ≡ bit r k
bit_below d n r k h lt = bit-mod (d * 2 ^ n + r) k ∙ ap (λ (x : ℕ). x / 2 ^ k) (cut d n r k h lt) ∙ sym (bit-mod r k)

-- nothing is in the empty set
pub none_in : (k : ℕ) → In 0 k → ⊥
unfolding bit
none_in k h = omega (arith, zero-div (2 ^ k))

-- a set that is a low number has low numbers only
pub in_below : (set n k : ℕ) → set < 2 ^ n → In set k → k < n
unfolding bit
in_below set n k h i = go (dec_lt k n)
  where
    go : Dec (k < n) → k < n
    go (yes l) = l
    go (no l) = let g : n ≤ k = omega arith in absurd (omega (arith, div-eq_of_lt {n = set} {m = 2 ^ k} (lt_of_lt_of_le h (pow_mono g))))

-- a power of two as a digit on top of nothing
one_top : (k : ℕ) → 1 * 2 ^ k + 0 ≡ 2 ^ k
one_top k = add-zero _ ∙ one-mul _

-- k is in the set of k alone
pub single_in : (k : ℕ) → In (2 ^ k) k
single_in k = ap (λ (n : ℕ). bit n k) (sym (one_top k)) ∙ bit-top 1 k 0 (pow_pos k)

-- and nothing else is
pub single_only : (j k : ℕ) → In (2 ^ j) k → k ≡ j
single_only j k i = go (ℕ_discrete k j) (dec_lt k j)
  where
    go : Dec (k ≡ j) → Dec (k < j) → k ≡ j
    go (yes e) d = e
    go (no n) (yes l) =
        absurd (none_in k (sym (ap (λ (x : ℕ). bit x k) (sym (one_top j)) ∙ bit_below 1 j 0 k (pow_pos j) l) ∙ i))
    go (no n) (no l) = absurd (let h = in_below (2 ^ j) (suc j) k (pow-lt (omega arith)) i in omega arith)

-- ---- the lowest

-- the bits of a half are the next bits
pub half_bit : (n k : ℕ) → bit n (suc k) ≡ bit (n / 2) k
unfolding bit
half_bit n k = ap (λ (x : ℕ). x % 2) (ap (λ (j : ℕ). n / 2 ^ j) (sym (one-add k)) ∙ sym (shr-shr n 1 k))

-- the lowest bit is the remainder by two
pub low_bit : (n : ℕ) → bit n 0 ≡ n % 2
unfolding bit
low_bit n = ap (λ (x : ℕ). x % 2) (div-one n)

-- r is the lowest number below w that is not in the set, or w where all are in it
pub record LowestOut (w set r : ℕ) : Type 0 where
  pub before : (k : ℕ) → k < r → In set k
  pub this : r < w → In set r → ⊥

-- from the lowest number that is not in a half to that of the whole
out_up : (w n d z : ℕ) → d ≡ suc n % 2 → (d ≡ 0 → LowestOut w (n / 2) z) → LowestOut (suc w) n (under d z)
out_up w n zero z e l = record { before = below; this = λ g i. (l refl).this (le_of_suc-le-suc g) (sym (half_bit n z) ∙ i) }
  where
    below : (k : ℕ) → k < suc z → In n k
    below zero g = low_bit n ∙ omega arith
    below (suc k) g = half_bit n k ∙ (l refl).before k (le_of_suc-le-suc g)
out_up w n (suc d) z e l = record { before = λ k g. absurd (not-suc-le-zero g); this = λ g i. let h = sym (low_bit n) ∙ i in omega arith }

-- by halves
out_of : (w n : ℕ) → LowestOut w n (count_trailing_zeros w (suc n))
unfolding count_trailing_zeros
out_of zero n = record { before = λ k g. absurd (not-suc-le-zero g); this = λ g. absurd (not-suc-le-zero g) }
out_of (suc w) n =
    out_up w n (suc n % 2) (count_trailing_zeros w (suc n / 2)) refl
    (λ e. let h : suc n / 2 ≡ suc (n / 2) = omega arith in rw h (out_of w (n / 2)))

-- the lowest number that is not in a set is the lowest in the next number
pub lowest_out : (w n : ℕ) → LowestOut w n (count_trailing_zeros w (n + 1))
lowest_out w n = rw (add-one n) (out_of w n)
