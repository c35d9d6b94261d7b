-- Laws of the numbers of a value as a loop reads them: what was read so far, put before what is left, is the value.
use Rattle.std.specs.Prelude.{ℕ, ◌+◌, ◌*◌, ◌%◌, ◌≤◌, ◌<◌, max, ◌≡◌, refl, Bool, true, false, List, [], ◌∷◌, ◌++◌}
use Rattle.std.specs.Prelude.{length, get_or, set}
use Rattle.std.proofs.Common.{arith, ◌∙◌, append_assoc, length-set, length-drop, drop_of_length-le, drop-cons}
use Rattle.std.proofs.Math.Path.{sym, ap}
use Rattle.std.proofs.Math.Option.{some}
use Rattle.std.proofs.Math.ListN.{drop}
use Rattle.sheet.specs.Sheet.{newline, space, numeral}
use Rattle.sheet.specs.Sheet.Numerals.{digits-some, digits-numeral}
use Rattle.sheet.specs.Text.{digits_of, Value, bad, has, value_of, words_of, prefixed, with_first}
use Rattle.sheet.specs.Text.{max_word, Wide, Written}
use Rattle.sheet.specs.Text.Rooms.{Keeps, keeps_none, keeps_more}
use Rattle.sheet.specs.Text.Values.{number_end, number_lf, number_space, number_other}
use Rattle.sheet.specs.Text.Values.{value_empty, value_nothing, value_words, words_nothing}

-- ---- a number and the byte after it

-- a number has a digit, so with the byte after it it takes two bytes
word_short : (s : List ℕ) (v c : ℕ) (rest : List ℕ) → numeral (digits_of s) ≡ some v →
    drop (length (digits_of s)) s ≡ c ∷ rest → length rest + 2 ≤ length s
word_short s v c rest n q =
    let a = ap (λ (x : List ℕ). length x) q in
    let d = length-drop (length (digits_of s)) s in
    let k = digits-some v in
    let j = ap (λ (x : List ℕ). length x) (digits-numeral (digits_of s) v n) in
    omega arith

module _ (s : List ℕ) {rest : List ℕ} (q : rest ≡ drop (length (digits_of s)) s) where
  -- neither the LF nor a space comes after the digits
  pub word_other : (1 ≤ length rest → get_or rest 0 0 ≡ newline → ⊥) →
      (1 ≤ length rest → get_or rest 0 0 ≡ space → ⊥) → words_of s ≡ bad
  word_other = first rest (sym q)
    where
      first : (r : List ℕ) → drop (length (digits_of s)) s ≡ r → (1 ≤ length r → get_or r 0 0 ≡ newline → ⊥) →
          (1 ≤ length r → get_or r 0 0 ≡ space → ⊥) → words_of s ≡ bad
      first [] p a b = number_end s p
      first (c ∷ cs) p a b = number_other s c cs p (a (omega arith)) (b (omega arith))

  module _ (v : ℕ) (n : numeral (digits_of s) ≡ some v) (h : 1 ≤ length rest)
      {after : List ℕ} (o : after ≡ drop 1 rest) where
    begins : (c : ℕ) → get_or rest 0 0 ≡ c → drop (length (digits_of s)) s ≡ c ∷ after
    begins c e = sym q ∙ drop-cons rest 0 0 h ∙ (λ i. e i ∷ sym o i)

    -- the LF comes after the number
    pub word_last : get_or rest 0 0 ≡ newline → (length after + 2 ≤ length s) × (words_of s ≡ with_first v true after)
    word_last e = (word_short s v newline after n (begins newline e), number_lf s after v n (begins newline e))

    -- a space comes after the number
    pub word_more : get_or rest 0 0 ≡ space → (length after + 2 ≤ length s) × (words_of s ≡ with_first v false after)
    word_more e = (word_short s v space after n (begins space e), number_space s after v n (begins space e))

-- ---- the loop

-- the numbers read so far, of which something holds, put before those that are left
pub record Reading (P : List ℕ → Type 0) (s rest : List ℕ) : Type 0 where
  pub acc : List ℕ
  pub holds : P acc
  pub left : prefixed acc (words_of rest) ≡ value_of s

-- at the start: no LF stands there
pub reading_start : (P : List ℕ → Type 0) (s : List ℕ) → P [] → (1 ≤ length s → get_or s 0 0 ≡ newline → ⊥) →
    Reading P s s
unfolding prefixed
reading_start P s p n = record { acc = []; holds = p; left = same (words_of s) ∙ first s n }
  where
    same : (v : Value) → prefixed [] v ≡ v
    same bad = refl
    same (has ns rest) = refl

    first : (s : List ℕ) → (1 ≤ length s → get_or s 0 0 ≡ newline → ⊥) → words_of s ≡ value_of s
    first [] n = words_nothing ∙ sym value_nothing
    first (c ∷ cs) n = sym (value_words c cs (n (omega arith)))

-- numbers before one number before others
twice : (acc : List ℕ) (v : ℕ) (w : Value) → prefixed (acc ++ (v ∷ [])) w ≡ prefixed acc (prefixed (v ∷ []) w)
unfolding prefixed
twice acc v bad = refl
twice acc v (has ns rest) = ap (λ (x : List ℕ). has x rest) (append_assoc acc (v ∷ []) ns)

module _ {P : List ℕ → Type 0} {s rest : List ℕ} (r : Reading P s rest) where
  -- what is left is not in its form
  pub reading_bad : words_of rest ≡ bad → value_of s ≡ bad
  unfolding prefixed
  reading_bad e = sym r.left ∙ ap (prefixed r.acc) e

  module _ (v : ℕ) (last : Bool) (after : List ℕ) (w : words_of rest ≡ with_first v last after) where
    -- a number that is not the last
    pub reading_more : last ≡ false → (Q : List ℕ → Type 0) → Q (r.acc ++ (v ∷ [])) → Reading Q s after
    reading_more e Q k = record {
      acc = r.acc ++ (v ∷ []);
      holds = k;
      left = twice r.acc v (words_of after) ∙ ap (prefixed r.acc) (sym (w ∙ ap (λ b. with_first v b after) e)) ∙ r.left;
    }

    -- the last number
    pub reading_last : last ≡ true → value_of s ≡ has (r.acc ++ (v ∷ [])) after
    unfolding prefixed
    reading_last e = sym r.left ∙ ap (prefixed r.acc) (w ∙ ap (λ b. with_first v b after) e)

-- the LF stands there: the value has no numbers
pub reading_empty : (s : List ℕ) {after : List ℕ} → 1 ≤ length s → get_or s 0 0 ≡ newline → after ≡ drop 1 s →
    value_of s ≡ has [] after
reading_empty s {after} h e o = ap value_of (drop-cons s 0 0 h ∙ (λ i. e i ∷ sym o i)) ∙ value_empty after

-- there is no byte
pub reading_nothing : (s : List ℕ) (at : ℕ) → length s ≤ at → value_of (drop at s) ≡ bad
reading_nothing s at h = ap value_of (drop_of_length-le s h) ∙ value_nothing

-- ---- what is told of a line whose numbers are kept

-- none
pub told_empty : (s before : List ℕ) {after : List ℕ} → 1 ≤ length s → get_or s 0 0 ≡ newline → after ≡ drop 1 s →
    Written (value_of s) 0 s before 0 after before
told_empty s before h e o = record {
  half = let a = ap (λ (x : List ℕ). length x) o ∙ length-drop 1 s in omega arith;
  numbers = [];
  value = reading_empty s h e o;
  counted = refl;
  placed = refl;
}

-- n numbers so far, each of which takes two bytes, are kept
pub record Keeping (s before out rest : List ℕ) (n top : ℕ) : Type 0 where
  pub half : 2 * n + length rest ≤ length s
  pub long : length out ≡ length before
  pub reading : Reading (Keeps before out n top) s rest

-- at the start: no LF stands there
pub keeping_start : (s before : List ℕ) → (1 ≤ length s → get_or s 0 0 ≡ newline → ⊥) → Keeping s before before s 0 0
keeping_start s before n = record {
  half = omega arith;
  long = refl;
  reading = reading_start (Keeps before before 0 0) s (keeps_none before) n;
}

module _ {s before out rest : List ℕ} {n top : ℕ} (k : Keeping s before out rest n top)
    (room : length s ≤ 2 * length before) (v : ℕ) (last : Bool)
    (after : List ℕ) (short : length after + 2 ≤ length rest)
    (w : words_of rest ≡ with_first v last after) {more : ℕ} (m : more ≡ max top v) where
  -- the numbers with one more
  its_numbers : Keeps before (set out n (v % 65536)) (n + 1) more (k.reading.acc ++ (v ∷ []))
  its_numbers = let a = k.half in keeps_more before out n top v more k.reading.acc (omega arith) m k.reading.holds

  -- a number that is not the last
  pub keeping_more : last ≡ false → Keeping s before (set out n (v % 65536)) after (n + 1) more
  keeping_more e = record {
    half = let a = k.half in omega arith;
    long = length-set out n (v % 65536) ∙ k.long;
    reading =
        reading_more k.reading v last after w e (Keeps before (set out n (v % 65536)) (n + 1) more) its_numbers;
  }

  module _ (e : last ≡ true) where
    -- the last number, and all are of 16 bits
    pub told_small : more ≤ max_word → Written (value_of s) 0 s before (n + 1) after (set out n (v % 65536))
    told_small l = record {
      half = let a = k.half in omega arith;
      numbers = k.reading.acc ++ (v ∷ []);
      value = reading_last k.reading v last after w e;
      counted = its_numbers.tally.counted;
      placed = its_numbers.held l;
    }

    -- the last number, and one is above 16 bits
    pub told_wide : max_word < more → Wide (value_of s)
    told_wide l = record {
      numbers = k.reading.acc ++ (v ∷ []);
      rest = after;
      value = reading_last k.reading v last after w e;
      wide = its_numbers.tally.wide l;
    }
