-- The line tail=.. is read exactly as it is printed, and of every line and every slice one outcome holds at most.
use Rattle.std.specs.Prelude.{ℕ, ◌≡◌, Bool, true, false, List, [], ◌∷◌, ◌++◌, length, leb, Result, Err}
use Rattle.std.proofs.Common.{arith, sym, ap, ◌∙◌, le-leb, leb-true}
use Rattle.std.proofs.Math.Path.{refl}
use Rattle.std.proofs.Math.Option.{Option, none, some}
use Rattle.std.proofs.lemmas.Bool.{lt-leb}
use Rattle.lines.specs.Basics.{never}
use Rattle.lines.specs.Lines.{Cut}
use Rattle.lines.specs.Lines.Fits.{all}
use Rattle.lines.specs.Ranges.Tests.{all-says, all-holds}
use Rattle.sheet.specs.Sheet.{newline, equals, print_numbers, Short, cut_line, line}
use Rattle.sheet.specs.Sheet.Numerals.{all_append}
use Rattle.sheet.specs.Sheet.Forms.{is_text, numbers_text, text_cut, cut-whole, line-print, print_line_law, line-short}
use Rattle.sheet.specs.Text.{max_word, Value, bad, has, ended, keyed}
use Rattle.sheet.specs.Text.Keyed.{keyed-whole}
use Rattle.sheet.specs.Tail.{tail_key, tail_text, tail_line, Words, ReadsTail, tokens, many, range, form, alone, tail_of, tail_into}
use Rattle.sheet.specs.declared.TailError.{TailError}

-- ---- the line

-- its bytes are no LF
tail_text_law : (xs : List ℕ) → Short xs → all is_text (tail_text xs) ≡ true
unfolding all
tail_text_law xs h = all_append is_text tail_key (equals ∷ print_numbers xs) refl (numbers_text xs h)

-- the line is read
pub tail_read : (xs : List ℕ) → Short xs → tail_of (tail_line xs) ≡ some xs
unfolding tail_of alone ended
tail_read xs h =
    ap alone (keyed-whole tail_key (tail_line xs) (tail_text xs) [] (text_cut (tail_text xs) [] (tail_text_law xs h))) ∙
    ap (λ (o : Option (List ℕ)). alone (ended o [])) (line-print tail_key xs h)

-- numbers that nothing comes after
pub alone-says : (v : Value) (xs : List ℕ) → alone v ≡ some xs → v ≡ has xs []
unfolding alone
alone-says bad xs e = never cc
alone-says (has ys []) xs e = let h : ys ≡ xs = cc in ap (λ (x : List ℕ). has x []) h
alone-says (has ys (b ∷ more)) xs e = never cc

-- what is read is the line
pub read_tail : (bs xs : List ℕ) → tail_of bs ≡ some xs → (bs ≡ tail_line xs) × Short xs
unfolding tail_of keyed ended
read_tail bs xs e = first (cut_line bs) refl
  where
    its : keyed tail_key bs ≡ has xs []
    its = alone-says (keyed tail_key bs) xs e

    first : (c : Cut) → cut_line bs ≡ c → (bs ≡ tail_line xs) × Short xs
    first Cut.nothing p = let h : bad ≡ has xs [] = rw (p, keyed) at its in never cc
    first Cut.short p = let h : bad ≡ has xs [] = rw (p, keyed) at its in never cc
    first (Cut.whole l rest) p = then (line tail_key l) refl
      where
        then : (o : Option (List ℕ)) → line tail_key l ≡ o → (bs ≡ tail_line xs) × Short xs
        then none q = let h : bad ≡ has xs [] = sym (keyed-whole tail_key bs l rest p ∙ ap (λ (o : Option (List ℕ)). ended o rest) q) ∙ its in never cc
        then (some ys) q =
            let h : has ys rest ≡ has xs [] = sym (keyed-whole tail_key bs l rest p ∙ ap (λ (o : Option (List ℕ)). ended o rest) q) ∙ its in
            let y : ys ≡ xs = cc in
            let r : rest ≡ [] = cc in
            let g : line tail_key l ≡ some xs = q ∙ ap (λ (x : List ℕ). some x) y in
            (cut-whole bs l rest p ∙ (λ i. print_line_law tail_key l xs g i ++ (newline ∷ r i)), line-short tail_key l xs g)

-- numbers of 16 bits have at most five digits
pub words_short : (xs : List ℕ) → Words xs → Short xs
words_short xs w x m = let h = w x m in omega arith

-- one line says one list of numbers
pub tail_once : (xs ys : List ℕ) → Short xs → Short ys → tail_line xs ≡ tail_line ys → xs ≡ ys
tail_once xs ys h k e =
    let z : ◌≡◌ {A = Option (List ℕ)} (some xs) (some ys) = sym (tail_read xs h) ∙ ap tail_of e ∙ tail_read ys k in cc

-- ---- the test of the range

-- it passes
pub words_test : (xs : List ℕ) → Words xs → all (λ x. leb x max_word) xs ≡ true
words_test xs w = all-holds (λ x. leb x max_word) xs (λ x m. le-leb x max_word (w x m))

-- what it says
pub test_words : (xs : List ℕ) → all (λ x. leb x max_word) xs ≡ true → Words xs
test_words xs e x m = leb-true x max_word (all-says (λ x. leb x max_word) xs e x m)

-- it does not pass
pub wide_test : (xs : List ℕ) → (Words xs → ⊥) → all (λ x. leb x max_word) xs ≡ false
wide_test xs n = at (all (λ x. leb x max_word) xs) refl
  where
    at : (b : Bool) → all (λ x. leb x max_word) xs ≡ b → all (λ x. leb x max_word) xs ≡ false
    at true p = absurd (n (test_words xs p))
    at false p = p

-- ---- the outcome

module _ (line before : List ℕ) where
  -- the line in its form is read
  its_tail : (xs : List ℕ) → line ≡ tail_line xs → Short xs → tail_of line ≡ some xs
  its_tail xs e h = ap tail_of e ∙ tail_read xs h

  -- what the relation allows is the program's outcome
  pub only_tail : (r : Result ℕ TailError) (after : List ℕ) → ReadsTail line before r after →
      tail_into (tail_of line) before ≡ (r, after)
  unfolding tail_into
  only_tail r after (tokens xs e w h) =
      rw (its_tail xs e (words_short xs w)) (rw (words_test xs w, tail_into) (rw (le-leb (length xs) (length before) h) refl))
  only_tail r after (many xs e w h) =
      rw (its_tail xs e (words_short xs w)) (rw (words_test xs w, tail_into) (rw (lt-leb (length xs) (length before) h) refl))
  only_tail r after (range xs e s n) = rw (its_tail xs e s) (rw (wide_test xs n, tail_into) refl)
  only_tail r after (form n) = at (tail_of line) refl
    where
      at : (o : Option (List ℕ)) → tail_of line ≡ o → tail_into (tail_of line) before ≡ (Err TailError.Form, before)
      at none p = rw p refl
      at (some xs) p = let (e, s) = read_tail line xs p in absurd (n xs s e)

  -- any two outcomes that the relation allows are equal
  pub unique_tail : (r r' : Result ℕ TailError) (after after' : List ℕ) → ReadsTail line before r after →
      ReadsTail line before r' after' → (r ≡ r') × (after ≡ after')
  unique_tail r r' after after' p q =
      let e = sym (only_tail r after p) ∙ only_tail r' after' q in
      (ap (λ (x : Result ℕ TailError × List ℕ). x.0) e, ap (λ (x : Result ℕ TailError × List ℕ). x.1) e)
