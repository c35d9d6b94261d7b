-- Laws of a value that is in its form, read byte by byte without a test of the form.
use Rattle.std.specs.Prelude.{ℕ, zero, suc, ◌+◌, ◌*◌, ◌-◌, ◌≤◌, ◌<◌, ◌≡◌, refl, Bool, true, false, List, [], ◌∷◌, ◌++◌, length, drop, eqb, leb}
use Rattle.std.proofs.Common.{arith, sym, ap, ◌∙◌, length-drop, eqb-true, eq-eqb, ne_eqb, le-leb, leb-true, leb-false}
use Rattle.std.proofs.Math.Option.{Option, none, some}
use Rattle.std.proofs.lemmas.Bool.{eqb-false, lt-leb}
use Rattle.theory.proofs.Basics.{both}
use Rattle.lines.specs.Basics.{never, impossible}
use Rattle.lines.specs.Lines.Fits.{all}
use Rattle.lines.specs.Ranges.Tests.{within-says}
use Rattle.sheet.specs.Sheet.{newline, space, digit0, digit9, is_digit, value_from, numeral, is_numeral}
use Rattle.sheet.specs.Text.{digits_of, Value, bad, has, value_of, words_of, prefixed, rest_from}
use Rattle.sheet.specs.Text.Digits.{digits_all}
use Rattle.sheet.specs.Text.Values.{digits_front, number_end, number_lf, number_space, number_other, number_bad, value_empty, value_nothing, value_words}

-- ---- one byte

-- a digit
pub rest_digit : (v c : ℕ) (cs : List ℕ) → digit0 ≤ c → rest_from v (c ∷ cs) ≡ rest_from (10 * v + (c - digit0)) cs
unfolding rest_from
rest_digit v c cs h = rw (le-leb digit0 c h, rest_from) refl

-- the LF
pub rest_lf : (v c : ℕ) (cs : List ℕ) → c ≡ newline → rest_from v (c ∷ cs) ≡ has (v ∷ []) cs
unfolding rest_from
rest_lf v c cs e = rw (lt-leb digit0 c (omega arith), rest_from) (rw (eq-eqb c newline e) refl)

-- another byte
pub rest_other : (v c : ℕ) (cs : List ℕ) → c < digit0 → (c ≡ newline → ⊥) → rest_from v (c ∷ cs) ≡ prefixed (v ∷ []) (rest_from 0 cs)
unfolding rest_from
rest_other v c cs h n = rw (lt-leb digit0 c h, rest_from) (rw (ne_eqb c newline n) refl)

-- no byte
pub rest_none : (v : ℕ) → rest_from v [] ≡ bad
unfolding rest_from
rest_none v = refl

-- digits in front
rest_digits : (v : ℕ) (ds r : List ℕ) → all is_digit ds ≡ true → rest_from v (ds ++ r) ≡ rest_from (value_from v ds) r
unfolding value_from all
rest_digits v [] r e = refl
rest_digits v (c ∷ ds) r e =
    let (a, b) = both (is_digit c) (all is_digit ds) e in
    let (x, y) = within-says digit0 digit9 c a in
    rest_digit v c (ds ++ r) x ∙ rest_digits (10 * v + (c - digit0)) ds r b

-- ---- the first number that comes is no less than what its digits so far say

pub rest-above : (v : ℕ) (bs ns rest : List ℕ) → rest_from v bs ≡ has ns rest → (x : ℕ) × (xs : List ℕ) × (ns ≡ x ∷ xs) × (v ≤ x)
unfolding prefixed
rest-above v [] ns rest e = let h : bad ≡ has ns rest = sym (rest_none v) ∙ e in never cc
rest-above v (c ∷ cs) ns rest e = first (leb digit0 c) refl (eqb c newline) refl (rest-above (10 * v + (c - digit0)) cs ns rest)
  where
    other : (u : Value) → prefixed (v ∷ []) u ≡ has ns rest → (x : ℕ) × (xs : List ℕ) × (ns ≡ x ∷ xs) × (v ≤ x)
    other bad h = never cc
    other (has ys r) h = (v, ys, cc, omega arith)

    first : (a : Bool) → leb digit0 c ≡ a → (b : Bool) → eqb c newline ≡ b →
        (rest_from (10 * v + (c - digit0)) cs ≡ has ns rest → (x : ℕ) × (xs : List ℕ) × (ns ≡ x ∷ xs) × (10 * v + (c - digit0) ≤ x)) →
        (x : ℕ) × (xs : List ℕ) × (ns ≡ x ∷ xs) × (v ≤ x)
    first true p b q ih = let (x, xs, g, l) = ih (sym (rest_digit v c cs (leb-true digit0 c p)) ∙ e) in (x, xs, g, omega arith)
    first false p true q ih = let h : has (v ∷ []) cs ≡ has ns rest = sym (rest_lf v c cs (eqb-true c newline q)) ∙ e in (v, [], cc, omega arith)
    first false p false q ih = other (rest_from 0 cs) (sym (rest_other v c cs (leb-false digit0 c p) (eqb-false c newline q)) ∙ e)

-- ---- a value in its form is read so

numeral-value : (ds : List ℕ) (n : ℕ) → numeral ds ≡ some n → n ≡ value_from 0 ds
unfolding numeral
numeral-value ds n e = at (is_numeral ds) refl
  where
    at : (b : Bool) → is_numeral ds ≡ b → n ≡ value_from 0 ds
    at true p = let h : ◌≡◌ {A = Option ℕ} (some (value_from 0 ds)) (some n) = rw (p, numeral) at e in cc
    at false p = let h : ◌≡◌ {A = Option ℕ} none (some n) = rw (p, numeral) at e in never cc

-- the first number, and what comes after its digits
rest_first : (bs : List ℕ) (v : ℕ) → numeral (digits_of bs) ≡ some v → rest_from 0 bs ≡ rest_from v (drop (length (digits_of bs)) bs)
rest_first bs v e =
    ap (rest_from 0) (digits_front bs) ∙ rest_digits 0 (digits_of bs) (drop (length (digits_of bs)) bs) (digits_all bs) ∙
    ap (λ (x : ℕ). rest_from x (drop (length (digits_of bs)) bs)) (sym (numeral-value (digits_of bs) v e))

rest-words : (k : ℕ) (bs ns rest : List ℕ) → length bs < k → words_of bs ≡ has ns rest → rest_from 0 bs ≡ has ns rest
unfolding prefixed
rest-words zero bs ns rest l e = impossible (omega arith)
rest-words (suc k) bs ns rest l e = first (numeral (digits_of bs)) refl (λ cs ms r. rest-words k cs ms r)
  where
    first : (o : Option ℕ) → numeral (digits_of bs) ≡ o →
        ((cs ms r : List ℕ) → length cs < k → words_of cs ≡ has ms r → rest_from 0 cs ≡ has ms r) → rest_from 0 bs ≡ has ns rest
    first none p ih = let h : bad ≡ has ns rest = sym (number_bad bs p) ∙ e in never cc
    first (some v) p ih = next (drop (length (digits_of bs)) bs) refl
      where
        next : (r : List ℕ) → drop (length (digits_of bs)) bs ≡ r → rest_from 0 bs ≡ has ns rest
        next [] q = let h : bad ≡ has ns rest = sym (number_end bs q) ∙ e in never cc
        next (c ∷ cs) q = by (eqb c newline) refl (eqb c space) refl
          where
            from : rest_from 0 bs ≡ rest_from v (c ∷ cs)
            from = rest_first bs v p ∙ ap (rest_from v) q

            shorter : length cs < k
            shorter = let a = ap (λ (x : List ℕ). length x) q in let b = length-drop (length (digits_of bs)) bs in omega arith

            spaced : c ≡ space → (u : Value) → words_of cs ≡ u → rest_from 0 bs ≡ has ns rest
            spaced g bad u =
                let h : bad ≡ has ns rest = sym (number_space bs cs v p (q ∙ ap (λ (x : ℕ). x ∷ cs) g) ∙ ap (prefixed (v ∷ [])) u) ∙ e in never cc
            spaced g (has ms r) u =
                let h : has (v ∷ ms) r ≡ has ns rest = sym (number_space bs cs v p (q ∙ ap (λ (x : ℕ). x ∷ cs) g) ∙ ap (prefixed (v ∷ [])) u) ∙ e in
                from ∙ rest_other v c cs (omega arith) (λ z. omega arith) ∙ ap (prefixed (v ∷ [])) (ih cs ms r shorter u) ∙ h

            by : (a : Bool) → eqb c newline ≡ a → (b : Bool) → eqb c space ≡ b → rest_from 0 bs ≡ has ns rest
            by true g b h =
                from ∙ rest_lf v c cs (eqb-true c newline g) ∙ sym (number_lf bs cs v p (q ∙ ap (λ (x : ℕ). x ∷ cs) (eqb-true c newline g))) ∙ e
            by false g true h = spaced (eqb-true c space h) (words_of cs) refl
            by false g false h = let z : bad ≡ has ns rest = sym (number_other bs c cs q (eqb-false c newline g) (eqb-false c space h)) ∙ e in never cc

-- a value with numbers
pub rest-value : (bs ns rest : List ℕ) → 1 ≤ length ns → value_of bs ≡ has ns rest → rest_from 0 bs ≡ has ns rest
rest-value [] ns rest l e = let h : bad ≡ has ns rest = sym value_nothing ∙ e in never cc
rest-value (c ∷ cs) ns rest l e = by (eqb c newline) refl
  where
    by : (a : Bool) → eqb c newline ≡ a → rest_from 0 (c ∷ cs) ≡ has ns rest
    by true g =
        let h : has [] cs ≡ has ns rest = sym (ap (λ (x : ℕ). value_of (x ∷ cs)) (eqb-true c newline g) ∙ value_empty cs) ∙ e in
        let z : [] ≡ ns = cc in
        let y = ap (λ (x : List ℕ). length x) z in impossible (omega arith)
    by false g = rest-words (suc (suc (length cs))) (c ∷ cs) ns rest (omega arith) (sym (value_words c cs (eqb-false c newline g)) ∙ e)
