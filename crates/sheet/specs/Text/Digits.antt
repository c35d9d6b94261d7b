-- Laws of the digits that bytes begin with, one digit more and at their end; and when they have the form of a number.
use Prim.Native.Nat.{ℕ, zero, suc, ◌+◌, ◌*◌, ◌-◌, ◌≤◌, ◌<◌}
use native.Mathlib.Omega.{arith}
use Rattle.std.proofs.Common.{add-one, ◌∙◌, drop_of_length-le, drop-cons, eq-eqb, ne_eqb, le-leb}
use Rattle.std.specs.Prelude.{◌≡◌, Bool, true, false, not, ◌&&◌, drop, eqb}
use Rattle.std.proofs.Math.Path.{refl, sym, ap, subst}
use Rattle.std.proofs.Math.Option.{none, some}
use mathlib.Core.List.{List, [], ◌∷◌}
use Rattle.std.proofs.Math.ListN.{length, get_or}
use Rattle.std.proofs.lemmas.Bool.{lt-leb}
use Rattle.lines.specs.Lines.Fits.{within, all}
use Rattle.lines.specs.Ranges.Tests.{two, within-holds}
use Rattle.lines.specs.Basics.{impossible}
use Rattle.sheet.specs.Sheet.{digit0, digit9, max_digits, is_digit, plain, is_numeral, value_from, numeral}
use Rattle.sheet.specs.Sheet.Numerals.{tens}
use Rattle.sheet.specs.Text.{digits_of, Counted, few, many}
use Rattle.std.proofs.Math.Decide.{dec_lt}

-- ---- one byte

-- a byte from 0 to 9 is a digit
pub is_digit_law : (c : ℕ) → digit0 ≤ c → c ≤ digit9 → is_digit c ≡ true
is_digit_law c a b = within-holds digit0 digit9 c (a, b)

-- a byte below 0 is none
pub under_digit : (c : ℕ) → c < digit0 → is_digit c ≡ false
under_digit c a = rw (lt-leb digit0 c a) refl

-- a byte above 9 is none
pub over_digit : (c : ℕ) → digit9 < c → is_digit c ≡ false
over_digit c a = rw (le-leb digit0 c (omega arith)) (lt-leb c digit9 a)

-- ---- one byte more

digit_next : (c : ℕ) (cs : List ℕ) → is_digit c ≡ true → digits_of (c ∷ cs) ≡ c ∷ digits_of cs
unfolding digits_of
digit_next c cs e = rw (e, digits_of) refl

digit_stop : (c : ℕ) (cs : List ℕ) → is_digit c ≡ false → digits_of (c ∷ cs) ≡ []
unfolding digits_of
digit_stop c cs e = rw (e, digits_of) refl

-- what is left from a place on, with its first byte
pub rest_at : (s : List ℕ) (i : ℕ) → i < length s → drop i s ≡ get_or s i 0 ∷ drop (i + 1) s
rest_at s i h = rw (add-one i) (drop-cons s i 0 h)

-- ---- counting

-- the digits of a number passed so far
pub record Counting (s : List ℕ) (count value : ℕ) : Type 0 where
  pub small : count ≤ max_digits
  pub below : value < tens count
  pub counted : count + length (digits_of (drop count s)) ≡ length (digits_of s)
  pub said : value_from value (digits_of (drop count s)) ≡ value_from 0 (digits_of s)

-- up to four digits say no more than this
pub tens-few : (k : ℕ) → k < max_digits → tens k ≤ 10000
unfolding tens
tens-few zero h = omega arith
tens-few (suc zero) h = omega arith
tens-few (suc (suc zero)) h = omega arith
tens-few (suc (suc (suc zero))) h = omega arith
tens-few (suc (suc (suc (suc zero)))) h = omega arith
tens-few (suc (suc (suc (suc (suc k))))) h = impossible (omega arith)

-- at the start no digit is counted
pub counting_start : (s : List ℕ) → Counting s 0 0
unfolding tens
counting_start s = record { small = omega arith; below = omega arith; counted = omega arith; said = refl }

module _ {s : List ℕ} {count value : ℕ} (k : Counting s count value) where
  -- one digit more
  pub counting_more : (d : ℕ) → count < length s → d + digit0 ≡ get_or s count 0 → get_or s count 0 ≤ digit9 →
      count < max_digits → Counting s (count + 1) (10 * value + d)
  unfolding value_from tens
  counting_more d h e l f =
      let c : ℕ = get_or s count 0 in
      let p : digits_of (drop count s) ≡ c ∷ digits_of (drop (count + 1) s) =
      ap digits_of (rest_at s count h) ∙ digit_next c (drop (count + 1) s) (is_digit_law c (omega arith) l) in
      let v : 10 * value + (c - digit0) ≡ 10 * value + d = omega arith in
      let t : 10 * value + d < 10 * tens count = let b = k.below in omega arith in
      record {
        small = omega arith;
        below = subst (λ (n : ℕ). 10 * value + d < tens n) (sym (add-one count)) t;
        counted = let q = ap (λ (x : List ℕ). length x) p in let r = k.counted in omega arith;
        said =
            ap (λ (x : ℕ). value_from x (digits_of (drop (count + 1) s))) (sym v) ∙ sym (ap (value_from value) p) ∙
            k.said;
      }

  -- no digit is left
  pub counting_done : digits_of (drop count s) ≡ [] → Counted (digits_of s) count value
  unfolding value_from
  counting_done e =
      few k.small (let q = ap (λ (x : List ℕ). length x) e in let r = k.counted in omega arith)
      (ap (value_from value) (sym e) ∙ k.said)

  -- the next byte is no digit
  pub counting_stop : count < length s → is_digit (get_or s count 0) ≡ false → Counted (digits_of s) count value
  counting_stop h e =
      counting_done (ap digits_of (rest_at s count h) ∙ digit_stop (get_or s count 0) (drop (count + 1) s) e)

  -- no byte is left
  pub counting_end : length s ≤ count → Counted (digits_of s) count value
  unfolding digits_of
  counting_end h = counting_done (ap digits_of (drop_of_length-le s h))

  -- a digit too many
  pub counting_many : count < length s → is_digit (get_or s count 0) ≡ true → count ≡ max_digits →
      Counted (digits_of s) (count + 1) value
  counting_many h e f =
      let p = ap digits_of (rest_at s count h) ∙ digit_next (get_or s count 0) (drop (count + 1) s) e in
      let q = ap (λ (x : List ℕ). length x) p in
      let r = k.counted in
      many (omega arith) (omega arith)

-- ---- the form of a number

-- the digits are digits
pub digits_all : (bs : List ℕ) → all is_digit (digits_of bs) ≡ true
unfolding digits_of all
digits_all [] = refl
digits_all (c ∷ cs) = at (is_digit c) refl (digits_all cs)
  where
    at : (b : Bool) → is_digit c ≡ b → all is_digit (digits_of cs) ≡ true → all is_digit (digits_of (c ∷ cs)) ≡ true
    at true p ih = rw (p, digits_of) (two p ih)
    at false p ih = rw (p, digits_of) refl

-- the digits are no more than the bytes
pub digits_short : (bs : List ℕ) → length (digits_of bs) ≤ length bs
unfolding digits_of
digits_short [] = omega arith
digits_short (c ∷ cs) = at (is_digit c) refl (digits_short cs)
  where
    at : (b : Bool) → is_digit c ≡ b → length (digits_of cs) ≤ length cs → length (digits_of (c ∷ cs)) ≤ suc (length cs)
    at true p ih = rw (p, digits_of) (omega arith)
    at false p ih = rw (p, digits_of) (omega arith)

-- the first digit is the first byte
first_digit : (bs : List ℕ) → 1 ≤ length (digits_of bs) → get_or (digits_of bs) 0 0 ≡ get_or bs 0 0
unfolding digits_of
first_digit [] h = refl
first_digit (c ∷ cs) h = at (is_digit c) refl
  where
    at : (b : Bool) → is_digit c ≡ b → get_or (digits_of (c ∷ cs)) 0 0 ≡ c
    at true p = rw (p, digits_of) refl
    at false p = let q = ap (λ (x : List ℕ). length x) (digit_stop c cs p) in impossible (omega arith)

plain-one : (ds : List ℕ) → length ds ≡ 1 → plain ds ≡ true
unfolding plain
plain-one [] h = impossible (omega arith)
plain-one (c ∷ []) h = refl
plain-one (c ∷ (d ∷ ds)) h = impossible (omega arith)

plain_more : (ds : List ℕ) → 1 < length ds → plain ds ≡ not (eqb (get_or ds 0 0) digit0)
unfolding plain
plain_more [] h = impossible (omega arith)
plain_more (c ∷ []) h = impossible (omega arith)
plain_more (c ∷ (d ∷ ds)) h = refl

form_holds : (ds : List ℕ) → 1 ≤ length ds → length ds ≤ max_digits → all is_digit ds ≡ true → plain ds ≡ true → numeral ds ≡ some (value_from 0 ds)
unfolding numeral is_numeral
form_holds ds a b e p = rw (two (two (within-holds 1 max_digits (length ds) (a, b)) e) p, numeral) refl

form_fails : (ds : List ℕ) → is_numeral ds ≡ false → numeral ds ≡ none
unfolding numeral
form_fails ds e = rw (e, numeral) refl

-- no digits, or too many
form_count : (ds : List ℕ) → within 1 max_digits (length ds) ≡ false → numeral ds ≡ none
unfolding is_numeral
form_count ds e = form_fails ds (rw e refl)

-- not tidy
form_untidy : (ds : List ℕ) → plain ds ≡ false → numeral ds ≡ none
unfolding is_numeral
form_untidy ds e = form_fails ds (rw e (and_false (within 1 max_digits (length ds) && all is_digit ds)))
  where
    and_false : (b : Bool) → (b && false) ≡ false
    and_false true = refl
    and_false false = refl

module _ (s : List ℕ) {count value : ℕ} (k : Counted (digits_of s) count value) where
  number_holds : count ≤ max_digits → 1 ≤ count → plain (digits_of s) ≡ true →
      (numeral (digits_of s) ≡ some value) × (count ≡ length (digits_of s))
  number_holds l h p = case k
    where
      case : Counted (digits_of s) count value → (numeral (digits_of s) ≡ some value) × (count ≡ length (digits_of s))
      case (few a b e) =
          (form_holds (digits_of s) (omega arith) (omega arith) (digits_all s) p ∙ ap (λ (x : ℕ). some x) (sym e), b)
      case (many a b) = impossible (omega arith)

  -- no digit stands there
  pub number_none : count ≡ 0 → numeral (digits_of s) ≡ none
  number_none h = case k
    where
      case : Counted (digits_of s) count value → numeral (digits_of s) ≡ none
      case (few a b e) = form_count (digits_of s) (rw (← b) (rw h refl))
      case (many a b) = impossible (omega arith)

  -- too many digits stand there
  pub number_many : max_digits < count → numeral (digits_of s) ≡ none
  number_many h = case k
    where
      case : Counted (digits_of s) count value → numeral (digits_of s) ≡ none
      case (few a b e) = impossible (omega arith)
      case (many a b) =
          let n : ℕ = length (digits_of s) in
          form_count (digits_of s) (rw (le-leb 1 n (omega arith)) (lt-leb n max_digits b))

  several : 1 < count → plain (digits_of s) ≡ not (eqb (get_or s 0 0) digit0)
  several h =
      plain_more (digits_of s) (long k) ∙
      ap (λ (x : ℕ). not (eqb x digit0)) (first_digit s (let l = long k in omega arith))
    where
      long : Counted (digits_of s) count value → 1 < length (digits_of s)
      long (few a b e) = omega arith
      long (many a b) = omega arith

  -- a zero leads
  pub number_zero : 1 < count → get_or s 0 0 ≡ digit0 → numeral (digits_of s) ≡ none
  number_zero h e = form_untidy (digits_of s) (several h ∙ ap not (eq-eqb (get_or s 0 0) digit0 e))

  -- one digit stands there, or several and no zero leads
  pub number_some : 1 ≤ count → count ≤ max_digits → (1 < count → get_or s 0 0 ≡ digit0 → ⊥) →
      (numeral (digits_of s) ≡ some value) × (count ≡ length (digits_of s))
  number_some h l e = number_holds l h (tidy (dec_lt 1 count))
    where
      one : Counted (digits_of s) count value → count ≡ 1 → plain (digits_of s) ≡ true
      one (few a b e) p = plain-one (digits_of s) (omega arith)
      one (many a b) p = impossible (omega arith)

      tidy : Dec (1 < count) → plain (digits_of s) ≡ true
      tidy (yes p) = several p ∙ ap not (ne_eqb (get_or s 0 0) digit0 (e p))
      tidy (no p) = one k (omega arith)
