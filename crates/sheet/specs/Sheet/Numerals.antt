-- One number: its digits have the form and say it, and a form that says it is its digits.
use Rattle.std.specs.Prelude.{ℕ, zero, suc, ◌+◌, ◌*◌, ◌-◌, ◌/◌, ◌%◌, ◌≤◌, ◌<◌, ◌≡◌, refl, Bool, true, false, ◌&&◌, not, List, [], ◌∷◌, ◌++◌, length, eqb, ltb}
use Rattle.std.proofs.Common.{arith, sym, ap, ◌∙◌, append_assoc, append-nil, length-append, ne_eqb, ltb-true, ltb-false, lt-ltb, le-ltb}
use Rattle.std.proofs.lemmas.Bool.{false≢true, eqb-false, not-true}
use Rattle.std.proofs.Math.Option.{Option, none, some}
use Rattle.theory.proofs.Basics.{both}
use Rattle.lines.specs.Lines.Fits.{within, all}
use Rattle.lines.specs.Ranges.Tests.{two, within-says, within-holds}
use Rattle.sheet.specs.Sheet.{digit0, digit9, max_digits, is_digit, plain, is_numeral, value_from, numeral, digits_within, digits}
use Rattle.lines.specs.Basics.{never, impossible}

pub all_append : (f : ℕ → Bool) (xs ys : List ℕ) → all f xs ≡ true → all f ys ≡ true → all f (xs ++ ys) ≡ true
unfolding all
all_append f [] ys p q = q
all_append f (x ∷ xs) ys p q = let (a, b) = both (f x) (all f xs) p in two a (all_append f xs ys b q)

-- ---- the digits of a number

-- the two ways to write a number
small : (k n : ℕ) → n < 10 → digits_within (suc k) n ≡ (digit0 + n) ∷ []
unfolding digits_within
small k n h = rw (lt-ltb n 10 h, digits_within) refl

large : (k n : ℕ) → 10 ≤ n → digits_within (suc k) n ≡ digits_within k (n / 10) ++ ((digit0 + n % 10) ∷ [])
unfolding digits_within
large k n h = rw (le-ltb n 10 h, digits_within) refl

-- 10 to the k
unfoldable pub tens : ℕ → ℕ
tens zero = 1
tens (suc k) = 10 * tens k

-- the first digit is not 0
leads : List ℕ → Bool
leads [] = false
leads (c ∷ cs) = not (eqb c digit0)

leads-append : (xs ys : List ℕ) → leads xs ≡ true → leads (xs ++ ys) ≡ true
unfolding leads
leads-append [] ys e = absurd (false≢true e)
leads-append (x ∷ xs) ys e = e

leads-plain : (xs : List ℕ) → leads xs ≡ true → plain xs ≡ true
unfolding leads plain
leads-plain [] e = absurd (false≢true e)
leads-plain (x ∷ []) e = refl
leads-plain (x ∷ (y ∷ xs)) e = e

value_append : (v : ℕ) (xs : List ℕ) (c : ℕ) → value_from v (xs ++ (c ∷ [])) ≡ 10 * value_from v xs + (c - digit0)
unfolding value_from
value_append v [] c = refl
value_append v (x ∷ xs) c = value_append (10 * v + (x - digit0)) xs c

-- a digit is one
digit_is : (d : ℕ) → d < 10 → all is_digit ((digit0 + d) ∷ []) ≡ true
unfolding all
digit_is d h = two (within-holds digit0 digit9 (digit0 + d) (omega arith, omega arith)) refl

-- what the digits of a number are like
record Written (k n : ℕ) (ds : List ℕ) : Type 0 where
  some_digits : 1 ≤ length ds
  few : length ds ≤ k
  each : all is_digit ds ≡ true
  first : 1 ≤ n → leads ds ≡ true
  tidy : plain ds ≡ true
  says : value_from 0 ds ≡ n

written : (k n : ℕ) → n < tens k → 1 ≤ k → Written k n (digits_within k n)
unfolding tens value_from leads plain
written zero n h p = impossible (omega arith)
written (suc k) n h p = at (ltb n 10) refl (written k (n / 10))
  where
    at : (b : Bool) → ltb n 10 ≡ b → (n / 10 < tens k → 1 ≤ k → Written k (n / 10) (digits_within k (n / 10))) → Written (suc k) n (digits_within (suc k) n)
    at true e ih =
        let l = ltb-true n 10 e in
        rw (small k n l) record {
          some_digits = omega arith;
          few = omega arith;
          each = digit_is n l;
          first = λ o. ap not (ne_eqb (digit0 + n) digit0 (omega arith));
          tidy = refl;
          says = omega arith;
        }
    at false e ih =
        let l = ltb-false n 10 e in
        let w = ih (omega arith) (k_some k h l) in
        rw (large k n l) record {
          some_digits = simp length-append (omega arith);
          few = simp length-append (let q = w.few in omega arith);
          each = all_append is_digit (digits_within k (n / 10)) ((digit0 + n % 10) ∷ []) w.each (digit_is (n % 10) (omega arith));
          first = λ o. leads-append (digits_within k (n / 10)) ((digit0 + n % 10) ∷ []) (w.first (omega arith));
          tidy = leads-plain (digits_within k (n / 10) ++ ((digit0 + n % 10) ∷ []))
              (leads-append (digits_within k (n / 10)) ((digit0 + n % 10) ∷ []) (w.first (omega arith)));
          says = value_append 0 (digits_within k (n / 10)) (digit0 + n % 10) ∙ (let q = w.says in omega arith);
        }
      where
        k_some : (j : ℕ) → n < 10 * tens j → 10 ≤ n → 1 ≤ j
        k_some zero a b = impossible (omega arith)
        k_some (suc j) a b = omega arith

-- the digits of a number of at most five digits
five : (n : ℕ) → n < 100000 → Written max_digits n (digits n)
unfolding digits tens
five n h = written max_digits n h (omega arith)

pub digits_are : (n : ℕ) → n < 100000 → all is_digit (digits n) ≡ true
digits_are n h = (five n h).each

-- every number has a digit
pub digits-some : (n : ℕ) → 1 ≤ length (digits n)
unfolding digits
digits-some n = at (ltb n 10) refl
  where
    at : (b : Bool) → ltb n 10 ≡ b → 1 ≤ length (digits_within 5 n)
    at true e = rw (small 4 n (ltb-true n 10 e)) (omega arith)
    at false e = rw (large 4 n (ltb-false n 10 e)) (simp length-append (omega arith))

-- its digits have the form and say it
pub numeral-digits : (n : ℕ) → n < 100000 → numeral (digits n) ≡ some n
unfolding numeral is_numeral
numeral-digits n h =
    let w = five n h in
    let e : is_numeral (digits n) ≡ true = two (two (within-holds 1 max_digits (length (digits n)) (w.some_digits, w.few)) w.each) w.tidy in
    rw (e, numeral) (ap (λ (v : ℕ). some v) w.says)

-- ---- a form and what it says

-- one digit more
digits_more : (k v c : ℕ) → 1 ≤ v → is_digit c ≡ true → digits_within (suc k) (10 * v + (c - digit0)) ≡ digits_within k v ++ (c ∷ [])
digits_more k v c h e =
    let (a, b) = within-says digit0 digit9 c e in
    let p : (10 * v + (c - digit0)) / 10 ≡ v = omega arith in
    let q : digit0 + (10 * v + (c - digit0)) % 10 ≡ c = omega arith in
    large k (10 * v + (c - digit0)) (omega arith) ∙ (λ i. digits_within k (p i) ++ (q i ∷ []))

digits_value : (f k v : ℕ) (cs : List ℕ) → f ≡ k + length cs → 1 ≤ v → all is_digit cs ≡ true → digits_within f (value_from v cs) ≡ digits_within k v ++ cs
unfolding value_from all
digits_value f k v [] p h e = let q : f ≡ k = omega arith in ap (λ (x : ℕ). digits_within x v) q ∙ sym (append-nil (digits_within k v))
digits_value f k v (c ∷ cs) p h e =
    let (a, b) = both (is_digit c) (all is_digit cs) e in
    digits_value f (suc k) (10 * v + (c - digit0)) cs (omega arith) (omega arith) b ∙
    (ap (λ (x : List ℕ). x ++ cs) (digits_more k v c h a) ∙ append_assoc (digits_within k v) (c ∷ []) cs)

-- a form with its first digit not 0, or one digit
form_value : (c : ℕ) (cs : List ℕ) → length cs < 5 → all is_digit (c ∷ cs) ≡ true → plain (c ∷ cs) ≡ true → digits (value_from 0 (c ∷ cs)) ≡ c ∷ cs
unfolding digits value_from all plain
form_value c [] l e p =
    let (a, b) = within-says digit0 digit9 c (both (is_digit c) true e).0 in
    small 4 (10 * 0 + (c - digit0)) (omega arith) ∙ ap (λ (x : ℕ). x ∷ []) (omega arith)
form_value c (d ∷ ds) l e p =
    let (x, y) = both (is_digit c) (all is_digit (d ∷ ds)) e in
    let (a, b) = within-says digit0 digit9 c x in
    let ne = eqb-false c digit0 (not-true (eqb c digit0) p) in
    digits_value 5 (suc (4 - length (d ∷ ds))) (10 * 0 + (c - digit0)) (d ∷ ds) (omega arith) (omega arith) y ∙
    ap (λ (z : List ℕ). z ++ (d ∷ ds)) (small (4 - length (d ∷ ds)) (10 * 0 + (c - digit0)) (omega arith) ∙ ap (λ (z : ℕ). z ∷ []) (omega arith))

-- what has the form is the digits of what it says
pub digits-numeral : (ds : List ℕ) (n : ℕ) → numeral ds ≡ some n → digits n ≡ ds
unfolding numeral is_numeral
digits-numeral ds n e = at (is_numeral ds) refl
  where
    form : (ds : List ℕ) → is_numeral ds ≡ true → digits (value_from 0 ds) ≡ ds
    form [] p = absurd (false≢true p)
    form (c ∷ cs) p =
        let (ab, t) = both (within 1 max_digits (suc (length cs)) && all is_digit (c ∷ cs)) (plain (c ∷ cs)) p in
        let (a, b) = both (within 1 max_digits (suc (length cs))) (all is_digit (c ∷ cs)) ab in
        let (u, v) = within-says 1 max_digits (suc (length cs)) a in
        form_value c cs (omega arith) b t

    at : (b : Bool) → is_numeral ds ≡ b → digits n ≡ ds
    at true p = let h : ◌≡◌ {A = Option ℕ} (some (value_from 0 ds)) (some n) = rw (p, numeral) at e in let q : value_from 0 ds ≡ n = cc in rw (← q) (form ds p)
    at false p = let h : ◌≡◌ {A = Option ℕ} none (some n) = rw (p, numeral) at e in never cc

-- ---- five digits say less than 100,000

tens-some : (k : ℕ) → 0 < tens k
unfolding tens
tens-some zero = omega arith
tens-some (suc k) = let h = tens-some k in omega arith

value_below : (f i v : ℕ) (cs : List ℕ) → f ≡ i + length cs → v < tens i → all is_digit cs ≡ true → value_from v cs < tens f
unfolding value_from all tens
value_below f i v [] p h e = let q : f ≡ i = omega arith in rw q h
value_below f i v (c ∷ cs) p h e =
    let (x, y) = both (is_digit c) (all is_digit cs) e in
    let (a, b) = within-says digit0 digit9 c x in
    value_below f (suc i) (10 * v + (c - digit0)) cs (omega arith) (omega arith) y

pub numeral-short : (ds : List ℕ) (n : ℕ) → numeral ds ≡ some n → n < 100000
unfolding numeral is_numeral tens
numeral-short ds n e = at (is_numeral ds) refl
  where
    at : (b : Bool) → is_numeral ds ≡ b → n < 100000
    at false p = let h : ◌≡◌ {A = Option ℕ} none (some n) = rw (p, numeral) at e in never cc
    at true p =
        let h : ◌≡◌ {A = Option ℕ} (some (value_from 0 ds)) (some n) = rw (p, numeral) at e in
        let q : value_from 0 ds ≡ n = cc in
        let (ab, t) = both (within 1 max_digits (length ds) && all is_digit ds) (plain ds) p in
        let (a, b) = both (within 1 max_digits (length ds)) (all is_digit ds) ab in
        let (u, v) = within-says 1 max_digits (length ds) a in
        rw (← q) (value_below 5 (5 - length ds) 0 ds (omega arith) (tens-some (5 - length ds)) b)
