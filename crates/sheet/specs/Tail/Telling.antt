-- Laws of the pass that finds what a tail line says, and of what its answer means for the line and the slice.
use Rattle.std.specs.Prelude.{ℕ, ◌+◌, ◌≤◌, ◌<◌, max, ◌≡◌, ◌≢◌, Bool, get_or}
use Rattle.std.specs.Prelude.{Option as Found, Some, None, MatchOption, Result, Ok, Err}
use Rattle.std.proofs.Common.{arith, ◌∙◌}
use Rattle.std.proofs.Math.Path.{refl, sym, ap, subst}
use Rattle.std.proofs.Math.Bool.{true, false}
use Rattle.std.proofs.Math.Option.{Option, none, some}
use mathlib.Core.List.{List, [], ◌∷◌, ◌++◌}
use Rattle.std.proofs.Math.ListN.{length}
use Rattle.std.proofs.Math.Dec.{leb}
use Rattle.lines.specs.Basics.{never}
use Rattle.lines.specs.Lines.Fits.{all}
use Rattle.sheet.specs.Sheet.{newline, after, in_front}
use Rattle.sheet.specs.Text.{max_word, Value, bad, has, value_of, words_of, with_first}
use Rattle.sheet.specs.Text.Tallies.{Tallied, tally_none, tally_more}
use Rattle.sheet.specs.Text.Readings.{Reading, reading_start, reading_more}
use Rattle.sheet.specs.Text.Keys.{after-other}
use Rattle.sheet.specs.Sheet.Forms.{after_front}
use Rattle.sheet.specs.Text.Keyed.{opening, keyed-other, keyed-value}
use Rattle.sheet.specs.Putting.{Puttable, Put}
use Rattle.sheet.specs.Tail.{tail_key, Words, ReadsTail, tokens, many, range, form, alone, tail_of, told_of}
use Rattle.sheet.specs.Tail.Exact.{tail_read, read_tail, alone-says, words_test, test_words, wide_test}
use Rattle.sheet.specs.declared.TailError.{TailError}
use denote.Ref.{Bor}

-- ---- the loop

-- each number so far has a byte, and is tallied
pub record Telling (s rest : List ℕ) (n top : ℕ) : Type 0 where
  pub few : n + length rest ≤ length s
  pub reading : Reading (Tallied n top) s rest

-- at the start: no LF stands there
pub telling_start : (s : List ℕ) → (1 ≤ length s → get_or s 0 0 ≡ newline → ⊥) → Telling s s 0 0
telling_start s n = record { few = omega arith; reading = reading_start (Tallied 0 0) s tally_none n }

module _ {s rest : List ℕ} {n top : ℕ} (t : Telling s rest n top) (v : ℕ) (last : Bool) (after : List ℕ)
    (short : length after + 2 ≤ length rest) (w : words_of rest ≡ with_first v last after)
    {more : ℕ} (m : more ≡ max top v) where
  -- the numbers with one more
  pub telling_tally : Tallied (n + 1) more (t.reading.acc ++ (v ∷ []))
  telling_tally = tally_more n top v more t.reading.acc m t.reading.holds

  -- a number that is not the last
  pub telling_more : last ≡ false → Telling s after (n + 1) more
  telling_more e = record {
    few = let a = t.few in omega arith;
    reading = reading_more t.reading v last after w e (Tallied (n + 1) more) telling_tally;
  }

-- ---- what is told of a value

-- it is not in its form
pub tell_bad : (v : Value) → v ≡ bad → Err TailError.Form ≡ told_of (alone v)
unfolding told_of alone
tell_bad v e = rw e refl

module _ (rest : List ℕ) {xs : List ℕ} {n top : ℕ} (t : Tallied n top xs) where
  -- bytes come after it
  pub tell_more : 1 ≤ length rest → Err TailError.Form ≡ told_of (alone (has xs rest))
  unfolding told_of alone
  tell_more h = some_byte rest h
    where
      some_byte : (rest : List ℕ) → 1 ≤ length rest → Err TailError.Form ≡ told_of (alone (has xs rest))
      some_byte [] h = never (omega arith)
      some_byte (b ∷ more) h = refl

  module _ (h : length rest ≡ 0) where
    none_after : alone (has xs rest) ≡ some xs
    unfolding alone
    none_after = no_byte rest h
      where
        no_byte : (rest : List ℕ) → length rest ≡ 0 → alone (has xs rest) ≡ some xs
        no_byte [] h = refl
        no_byte (b ∷ more) h = never (omega arith)

    -- a number is too large
    pub tell_wide : max_word < top → Err TailError.Range ≡ told_of (alone (has xs rest))
    unfolding told_of
    tell_wide l = rw none_after (rw (wide_test xs (t.wide l), told_of) refl)

    -- all numbers are tokens
    pub tell_small : top ≤ max_word → Ok n ≡ told_of (alone (has xs rest))
    unfolding told_of
    tell_small l = rw none_after (rw (words_test xs (t.small l), told_of) (ap (λ (k : ℕ). Ok k) t.counted))

-- ---- the key

-- the line has another key
pub tail_other : (line : List ℕ) → ((v : List ℕ) → line ≡ opening tail_key ++ v → ⊥) → tail_of line ≡ none
unfolding tail_of alone
tail_other line n = ap alone (keyed-other tail_key line (after-other (opening tail_key) line n))

-- it has the key: its value stands behind it
pub tail_behind : (line v : List ℕ) → line ≡ opening tail_key ++ v → tail_of line ≡ alone (value_of v)
unfolding tail_of all
tail_behind line v e =
    ap alone (keyed-value tail_key line v refl (ap (after (opening tail_key)) e ∙ after_front (opening tail_key) v))

-- the value behind the key, if that stands in front
pub tail_opened : (line : List ℕ) (r : Found (Bor (List ℕ))) →
    MatchOption r ((v : List ℕ) → line ≢ opening tail_key ++ v) (λ v. line ≡ opening tail_key ++ v.now) →
    MatchOption r (tail_of line ≡ none) (λ v. tail_of line ≡ alone (value_of v.now))
tail_opened line None n = tail_other line n
tail_opened line (Some v) e = tail_behind line v.now e

-- ---- what is told means for the line

module _ (line before : List ℕ) where
  -- not in its form
  pub answer_form : tail_of line ≡ none → ReadsTail line before (Err TailError.Form) before
  answer_form e = form (λ xs s p. none-some xs (sym e ∙ ap tail_of p ∙ tail_read xs s)) where
    none-some : (xs : List ℕ) → ◌≡◌ {A = Option (List ℕ)} none (some xs) → ⊥
    none-some xs e = never cc

  -- a refusal
  pub answer_refused : (r : TailError) → Err r ≡ told_of (tail_of line) → ReadsTail line before (Err r) before
  unfolding told_of
  answer_refused r e = at (tail_of line) refl
    where
      at : (o : Option (List ℕ)) → tail_of line ≡ o → ReadsTail line before (Err r) before
      at none p = subst (λ x. ReadsTail line before x before) (sym (e ∙ ap told_of p)) (answer_form p)
      at (some xs) p = by (all (λ x. leb x max_word) xs) refl
        where
          by : (b : Bool) → all (λ x. leb x max_word) xs ≡ b → ReadsTail line before (Err r) before
          by true q =
              let h : ◌≡◌ {A = Result ℕ TailError} (Err r) (Ok (length xs)) = e ∙ ap told_of p ∙ rw (q, told_of) refl in
              never cc
          by false q =
              let (u, s) = read_tail line xs p in
              subst (λ x. ReadsTail line before x before) (sym (e ∙ ap told_of p ∙ rw (q, told_of) refl))
              (range xs u s (λ w. never (let z = sym q ∙ words_test xs w in cc)))

  module _ (n : ℕ) (e : Ok n ≡ told_of (tail_of line)) where
    -- the tokens
    its_tokens : (xs : List ℕ) × (tail_of line ≡ some xs) × Words xs × (n ≡ length xs)
    unfolding told_of
    its_tokens = at (tail_of line) refl
      where
        at : (o : Option (List ℕ)) → tail_of line ≡ o → (xs : List ℕ) × (tail_of line ≡ some xs) × Words xs × (n ≡ length xs)
        at none p = let h : ◌≡◌ {A = Result ℕ TailError} (Ok n) (Err TailError.Form) = e ∙ ap told_of p in never cc
        at (some xs) p = by (all (λ x. leb x max_word) xs) refl
          where
            by : (b : Bool) → all (λ x. leb x max_word) xs ≡ b → (xs : List ℕ) × (tail_of line ≡ some xs) × Words xs × (n ≡ length xs)
            by true q =
                let h : ◌≡◌ {A = Result ℕ TailError} (Ok n) (Ok (length xs)) =
                e ∙ ap told_of p ∙ rw (q, told_of) refl in
                (xs, p, test_words xs q, cc)
            by false q =
                let h : ◌≡◌ {A = Result ℕ TailError} (Ok n) (Err TailError.Range) =
                e ∙ ap told_of p ∙ rw (q, told_of) refl in
                never cc

    -- more than the slice holds
    pub answer_many : length before < n → ReadsTail line before (Err (TailError.Many n)) before
    answer_many h =
        let (xs, p, w, c) = its_tokens in
        subst (λ (k : ℕ). ReadsTail line before (Err (TailError.Many k)) before) (sym c)
        (many xs (read_tail line xs p).0 w (omega arith))

    -- there is room for them: they are written
    answer_tokens : (xs held : List ℕ) → tail_of line ≡ some xs → Words xs → n ≡ length xs → n ≤ length before → held ≡ in_front xs before →
        ReadsTail line before (Ok n) held
    answer_tokens xs held p w c h q =
        subst (ReadsTail line before (Ok n)) (sym q)
        (subst (λ (k : ℕ). ReadsTail line before (Ok k) (in_front xs before)) (sym c)
        (tokens xs (read_tail line xs p).0 w (omega arith)))

    -- none at all
    pub answer_none : n ≡ 0 → ReadsTail line before (Ok n) before
    answer_none z = let (xs, p, w, c) = its_tokens in answer_tokens xs before p w c (omega arith) (at xs (sym c ∙ z))
      where
        at : (xs : List ℕ) → length xs ≡ 0 → before ≡ in_front xs before
        at [] k = refl
        at (x ∷ xs) k = let z : ⊥ = omega arith in absurd z

    module _ (value : List ℕ) (k : tail_of line ≡ alone (value_of value)) (h : n ≤ length before) where
      -- they can be written
      pub tail_puttable : 1 ≤ n → Puttable value (length before)
      tail_puttable l =
          let (xs, p, w, c) = its_tokens in
          record {
            numbers = xs;
            rest = [];
            value = alone-says (value_of value) xs (sym k ∙ p);
            some_numbers = omega arith;
            small = w;
            fits = omega arith;
          }

      -- they are written
      pub answer_written : (held : List ℕ) → Put value before held → ReadsTail line before (Ok n) held
      answer_written held t =
          let (xs, p, w, c) = its_tokens in
          let g : has t.numbers t.rest ≡ has xs [] = sym t.value ∙ alone-says (value_of value) xs (sym k ∙ p) in
          let y : t.numbers ≡ xs = cc in
          answer_tokens xs held p w c h (t.written ∙ ap (λ (x : List ℕ). in_front x before) y)
