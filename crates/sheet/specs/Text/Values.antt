-- Laws of a value: how it goes on after its first number, by the byte that follows that number's digits.
use Rattle.std.specs.Prelude.{ℕ, ◌≡◌, Bool, true, false, ◌&&◌, ◌⊎◌, length, eqb}
use Rattle.std.proofs.Common.{arith, sym, ◌∙◌, subst, inl, inr, ⊎_elim, eqb-true, ne_eqb, leb-true}
use Rattle.std.proofs.Math.Path.{refl, ap}
use Rattle.std.proofs.Math.Option.{Option, none, some}
use mathlib.Core.List.{List, [], ◌∷◌, ◌++◌, append-nil}
use Rattle.std.proofs.Math.ListN.{drop}
use Rattle.std.proofs.lemmas.Bool.{eqb-false}
use Rattle.theory.proofs.Basics.{both}
use Rattle.lines.specs.Lines.{Cut}
use Rattle.lines.specs.Lines.Fits.{all, within}
use Rattle.lines.specs.Basics.{never}
use Rattle.sheet.specs.Sheet.{newline, space, is_digit, is_numeral, numeral, before, words, each_numeral, numerals, cut_line, max_digits}
use Rattle.sheet.specs.Sheet.Forms.{is_text, digits_text, words-some, digit_word}
use Rattle.sheet.specs.Text.{digits_of, bad, has, ended, value_of, words_of, prefixed}
use Rattle.sheet.specs.Text.Digits.{digits_all}

-- ---- a byte that is no LF, and what comes after it

-- no line ends
abbrev pub Endless : Cut → Type 0
Endless c = (c ≡ Cut.nothing) ⊎ (c ≡ Cut.short)

-- a line goes on after a byte
byte_whole : (c : ℕ) (cs l rest : List ℕ) → (c ≡ newline → ⊥) → cut_line cs ≡ Cut.whole l rest → cut_line (c ∷ cs) ≡ Cut.whole (c ∷ l) rest
unfolding cut_line
byte_whole c cs l rest n p = rw (ne_eqb c newline n, cut_line) (rw p refl)

-- no line ends after a byte if none ends in what comes after
byte_endless : (c : ℕ) (cs : List ℕ) → (c ≡ newline → ⊥) → Endless (cut_line cs) → cut_line (c ∷ cs) ≡ Cut.short
unfolding cut_line
byte_endless c cs n p = rw (ne_eqb c newline n, cut_line) (⊎_elim (λ q. rw q refl) (λ q. rw q refl) p)

-- ---- text, which has no LF, and what comes after it

-- a line goes on after text
pub text_whole : (t r l rest : List ℕ) → all is_text t ≡ true → cut_line r ≡ Cut.whole l rest → cut_line (t ++ r) ≡ Cut.whole (t ++ l) rest
unfolding all
text_whole [] r l rest e p = p
text_whole (c ∷ t) r l rest e p =
    let (a, b) = both (is_text c) (all is_text t) e in
    let k = leb-true space c a in
    byte_whole c (t ++ r) (t ++ l) rest (omega arith) (text_whole t r l rest b p)

-- no line ends after text if none ends in what comes after
pub text_endless : (t r : List ℕ) → all is_text t ≡ true → Endless (cut_line r) → Endless (cut_line (t ++ r))
unfolding all
text_endless [] r e p = p
text_endless (c ∷ t) r e p =
    let (a, b) = both (is_text c) (all is_text t) e in
    let k = leb-true space c a in
    inr (byte_endless c (t ++ r) (omega arith) (text_endless t r b p))

-- ---- words

-- digits before a word are a part of it
words-front : (ds l w : List ℕ) (ws : List (List ℕ)) → all is_digit ds ≡ true → words l ≡ w ∷ ws → words (ds ++ l) ≡ (ds ++ w) ∷ ws
unfolding words all before
words-front [] l w ws e p = p
words-front (c ∷ ds) l w ws e p =
    let (a, b) = both (is_digit c) (all is_digit ds) e in
    rw (digit_word c a, words) (rw (words-front ds l w ws b p) refl)

-- ---- the value of words

words_endless : (bs : List ℕ) → Endless (cut_line bs) → words_of bs ≡ bad
unfolding words_of
words_endless bs p = ⊎_elim (λ (q : cut_line bs ≡ Cut.nothing). rw (q, words_of) refl) (λ (q : cut_line bs ≡ Cut.short). rw (q, words_of) refl) p

words-whole : (bs l rest : List ℕ) (ws : List (List ℕ)) → cut_line bs ≡ Cut.whole l rest → words l ≡ ws → words_of bs ≡ ended (each_numeral ws) rest
unfolding words_of
words-whole bs l rest ws p q = rw (p, words_of) (ap (λ (x : List (List ℕ)). ended (each_numeral x) rest) q)

-- the digits in front, and what comes after them
pub digits_front : (bs : List ℕ) → bs ≡ digits_of bs ++ drop (length (digits_of bs)) bs
unfolding digits_of
digits_front [] = refl
digits_front (c ∷ cs) = at (is_digit c) refl (digits_front cs)
  where
    at : (b : Bool) → is_digit c ≡ b → cs ≡ digits_of cs ++ drop (length (digits_of cs)) cs → c ∷ cs ≡ digits_of (c ∷ cs) ++ drop (length (digits_of (c ∷ cs))) (c ∷ cs)
    at true p ih = rw (p, digits_of) (ap (λ (x : List ℕ). c ∷ x) ih)
    at false p ih = rw (p, digits_of) refl

-- after the digits comes no digit
pub digits_stop : (bs : List ℕ) (c : ℕ) (cs : List ℕ) → drop (length (digits_of bs)) bs ≡ c ∷ cs → is_digit c ≡ false
unfolding digits_of
digits_stop [] c cs e = never cc
digits_stop (b ∷ bs) c cs e = at (is_digit b) refl (digits_stop bs c cs)
  where
    at : (t : Bool) → is_digit b ≡ t → (drop (length (digits_of bs)) bs ≡ c ∷ cs → is_digit c ≡ false) → is_digit c ≡ false
    at true p ih = ih (rw (p, digits_of) at e)
    at false p ih = let h : b ∷ bs ≡ c ∷ cs = rw (p, digits_of) at e in let q : b ≡ c = cc in rw (← q) p

-- a digit is text
digits_are_text : (bs : List ℕ) → all is_text (digits_of bs) ≡ true
digits_are_text bs = digits_text (digits_of bs) (digits_all bs)

each_none : (w : List ℕ) (ws : List (List ℕ)) → numeral w ≡ none → each_numeral (w ∷ ws) ≡ none
unfolding each_numeral
each_none w ws e = rw (e, each_numeral) refl

each_one : (w : List ℕ) (v : ℕ) → numeral w ≡ some v → each_numeral (w ∷ []) ≡ some (v ∷ [])
unfolding each_numeral
each_one w v e = rw (e, each_numeral) refl

and_false : (b : Bool) → (b && false) ≡ false
and_false true = refl
and_false false = refl

some_other : (ds : List ℕ) (c : ℕ) (w : List ℕ) → is_digit c ≡ false → all is_digit (ds ++ (c ∷ w)) ≡ false
unfolding all
some_other [] c w e = rw e refl
some_other (d ∷ ds) c w e = rw (some_other ds c w e) (and_false (is_digit d))

-- a word with a byte that is no digit has not the form
mixed : (ds : List ℕ) (c : ℕ) (w : List ℕ) → is_digit c ≡ false → numeral (ds ++ (c ∷ w)) ≡ none
unfolding numeral is_numeral
mixed ds c w e =
    let n : ℕ = length (ds ++ (c ∷ w)) in
    let p : is_numeral (ds ++ (c ∷ w)) ≡ false = rw (some_other ds c w e) (rw (and_false (within 1 max_digits n)) refl) in
    rw (p, numeral) refl

-- ---- the first number of a value, by the byte after its digits

module _ (bs : List ℕ) where
  -- no line ends after the digits and what comes after them
  after_endless : Endless (cut_line (drop (length (digits_of bs)) bs)) → words_of bs ≡ bad
  after_endless e =
      words_endless bs (subst (λ x. Endless (cut_line x)) (sym (digits_front bs))
      (text_endless (digits_of bs) (drop (length (digits_of bs)) bs) (digits_are_text bs) e))

  -- a line ends after the digits and what comes after them, whose first word is w
  after_whole : (l rest w : List ℕ) (ws : List (List ℕ)) → cut_line (drop (length (digits_of bs)) bs) ≡ Cut.whole l rest → words l ≡ w ∷ ws →
      words_of bs ≡ ended (each_numeral ((digits_of bs ++ w) ∷ ws)) rest
  after_whole l rest w ws p q =
      let ds : List ℕ = digits_of bs in
      words-whole bs (ds ++ l) rest ((ds ++ w) ∷ ws)
      (ap cut_line (digits_front bs) ∙ text_whole ds (drop (length ds) bs) l rest (digits_are_text bs) p)
      (words-front ds l w ws (digits_all bs) q)

  -- no byte comes after the digits
  pub number_end : drop (length (digits_of bs)) bs ≡ [] → words_of bs ≡ bad
  unfolding cut_line
  number_end e = after_endless (rw e (inl refl))

  -- the LF comes after the digits
  after_lf : (cs : List ℕ) → drop (length (digits_of bs)) bs ≡ newline ∷ cs → words_of bs ≡ ended (each_numeral (digits_of bs ∷ [])) cs
  unfolding cut_line words
  after_lf cs e = after_whole [] cs [] [] (rw e refl) refl ∙ ap (λ (x : List ℕ). ended (each_numeral (x ∷ [])) cs) (append-nil (digits_of bs))

  -- a number and the LF: this number alone
  pub number_lf : (cs : List ℕ) (v : ℕ) → numeral (digits_of bs) ≡ some v → drop (length (digits_of bs)) bs ≡ newline ∷ cs → words_of bs ≡ has (v ∷ []) cs
  unfolding ended
  number_lf cs v p e = after_lf cs e ∙ ap (λ (x : Option (List ℕ)). ended x cs) (each_one (digits_of bs) v p)

  -- a space comes after the digits
  after_space : (cs : List ℕ) → drop (length (digits_of bs)) bs ≡ space ∷ cs → (l rest : List ℕ) → cut_line cs ≡ Cut.whole l rest →
      words_of bs ≡ ended (each_numeral (digits_of bs ∷ words l)) rest
  unfolding cut_line words
  after_space cs e l rest p =
      after_whole (space ∷ l) rest [] (words l) (rw e (rw p refl)) refl ∙
      ap (λ (x : List ℕ). ended (each_numeral (x ∷ words l)) rest) (append-nil (digits_of bs))

  -- a space, and no line ends
  after_space_endless : (cs : List ℕ) → drop (length (digits_of bs)) bs ≡ space ∷ cs → Endless (cut_line cs) → words_of bs ≡ bad
  unfolding cut_line
  after_space_endless cs e p = after_endless (rw e (inr (⊎_elim (λ q. rw q refl) (λ q. rw q refl) p)))

  -- a number and a space: this number, and then those that come after
  pub number_space : (cs : List ℕ) (v : ℕ) → numeral (digits_of bs) ≡ some v → drop (length (digits_of bs)) bs ≡ space ∷ cs →
      words_of bs ≡ prefixed (v ∷ []) (words_of cs)
  unfolding prefixed ended each_numeral words_of
  number_space cs v p e = first (cut_line cs) refl
    where
      first : (c : Cut) → cut_line cs ≡ c → words_of bs ≡ prefixed (v ∷ []) (words_of cs)
      first Cut.nothing q = after_space_endless cs e (inl q) ∙ ap (prefixed (v ∷ [])) (sym (words_endless cs (inl q)))
      first Cut.short q = after_space_endless cs e (inr q) ∙ ap (prefixed (v ∷ [])) (sym (words_endless cs (inr q)))
      first (Cut.whole l rest) q = then (each_numeral (words l)) refl
        where
          then : (o : Option (List ℕ)) → each_numeral (words l) ≡ o → words_of bs ≡ prefixed (v ∷ []) (words_of cs)
          then none r =
              after_space cs e l rest q ∙ rw (p, each_numeral) (rw r refl) ∙
              ap (prefixed (v ∷ [])) (sym (words-whole cs l rest (words l) q refl ∙ ap (λ (x : Option (List ℕ)). ended x rest) r))
          then (some ns) r =
              after_space cs e l rest q ∙ rw (p, each_numeral) (rw r refl) ∙
              ap (prefixed (v ∷ [])) (sym (words-whole cs l rest (words l) q refl ∙ ap (λ (x : Option (List ℕ)). ended x rest) r))

  -- another byte comes after the digits
  pub number_other : (c : ℕ) (cs : List ℕ) → drop (length (digits_of bs)) bs ≡ c ∷ cs → (c ≡ newline → ⊥) → (c ≡ space → ⊥) → words_of bs ≡ bad
  unfolding words before ended
  number_other c cs e n m = first (cut_line cs) refl
    where
      first : (x : Cut) → cut_line cs ≡ x → words_of bs ≡ bad
      first Cut.nothing q = after_endless (rw e (inr (byte_endless c cs n (inl q))))
      first Cut.short q = after_endless (rw e (inr (byte_endless c cs n (inr q))))
      first (Cut.whole l rest) q =
          let (w, ws, r) = words-some l in
          after_whole (c ∷ l) rest (c ∷ w) ws (rw e (byte_whole c cs l rest n q)) (rw (ne_eqb c space m, words) (rw r refl)) ∙
          ap (λ (x : Option (List ℕ)). ended x rest) (each_none (digits_of bs ++ (c ∷ w)) ws (mixed (digits_of bs) c w (digits_stop bs c cs e)))

  -- no number stands there
  pub number_bad : numeral (digits_of bs) ≡ none → words_of bs ≡ bad
  unfolding ended
  number_bad p = first (drop (length (digits_of bs)) bs) refl
    where
      spaced : (cs : List ℕ) → drop (length (digits_of bs)) bs ≡ space ∷ cs → (c : Cut) → cut_line cs ≡ c → words_of bs ≡ bad
      spaced cs e Cut.nothing q = after_space_endless cs e (inl q)
      spaced cs e Cut.short q = after_space_endless cs e (inr q)
      spaced cs e (Cut.whole l rest) q = after_space cs e l rest q ∙ ap (λ (x : Option (List ℕ)). ended x rest) (each_none (digits_of bs) (words l) p)

      first : (r : List ℕ) → drop (length (digits_of bs)) bs ≡ r → words_of bs ≡ bad
      first [] e = number_end e
      first (c ∷ cs) e = by (eqb c newline) refl (eqb c space) refl
        where
          by : (a : Bool) → eqb c newline ≡ a → (b : Bool) → eqb c space ≡ b → words_of bs ≡ bad
          by true q b r =
              after_lf cs (e ∙ ap (λ (x : ℕ). x ∷ cs) (eqb-true c newline q)) ∙
              ap (λ (x : Option (List ℕ)). ended x cs) (each_none (digits_of bs) [] p)
          by false q true r = spaced cs (e ∙ ap (λ (x : ℕ). x ∷ cs) (eqb-true c space r)) (cut_line cs) refl
          by false q false r = number_other c cs e (eqb-false c newline q) (eqb-false c space r)

-- ---- a value and its words

-- nothing before the LF
pub value_empty : (cs : List ℕ) → value_of (newline ∷ cs) ≡ has [] cs
unfolding value_of cut_line numerals ended
value_empty cs = refl

-- no byte at all
pub value_nothing : value_of [] ≡ bad
unfolding value_of cut_line
value_nothing = refl

-- nor a number
pub words_nothing : words_of [] ≡ bad
unfolding words_of cut_line
words_nothing = refl

-- a value that does not begin with the LF is one of words
pub value_words : (c : ℕ) (cs : List ℕ) → (c ≡ newline → ⊥) → value_of (c ∷ cs) ≡ words_of (c ∷ cs)
unfolding value_of words_of numerals
value_words c cs n = first (cut_line cs) refl
  where
    endless : Endless (cut_line cs) → value_of (c ∷ cs) ≡ words_of (c ∷ cs)
    endless q = let e = byte_endless c cs n q in rw (e, value_of) (sym (words_endless (c ∷ cs) (inr e)))

    first : (x : Cut) → cut_line cs ≡ x → value_of (c ∷ cs) ≡ words_of (c ∷ cs)
    first Cut.nothing q = endless (inl q)
    first Cut.short q = endless (inr q)
    first (Cut.whole l rest) q =
        let e = byte_whole c cs l rest n q in
        rw (e, value_of) (sym (words-whole (c ∷ cs) (c ∷ l) rest (words (c ∷ l)) e refl))
