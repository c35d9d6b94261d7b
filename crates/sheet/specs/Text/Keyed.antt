-- Laws of a line with a key: its value is what stands behind the key and the equals sign.
use Rattle.std.specs.Prelude.{ℕ, ◌≡◌, refl, true, List, [], ◌∷◌, ◌++◌}
use Rattle.std.proofs.Common.{sym, ap, ◌∙◌, subst, inl, inr, ⊎_elim, append_assoc}
use Rattle.std.proofs.Math.Option.{Option, none, some}
use Rattle.lines.specs.Basics.{never}
use Rattle.lines.specs.Lines.{Cut}
use Rattle.lines.specs.Lines.Fits.{all}
use Rattle.sheet.specs.Sheet.{newline, equals, after, line, cut_line}
use Rattle.sheet.specs.Sheet.Numerals.{all_append}
use Rattle.sheet.specs.Sheet.Forms.{is_text, front_after, after_front, cut-whole}
use Rattle.sheet.specs.Text.{bad, ended, value_of, keyed}
use Rattle.sheet.specs.Text.Values.{Endless, text_whole, text_endless}

-- the bytes in front of a value
abbrev pub opening : List ℕ → List ℕ
opening k = k ++ (equals ∷ [])

-- more bytes behind change nothing of a key in front
after-grows : (k bs v more : List ℕ) → after k bs ≡ some v → after k (bs ++ more) ≡ some (v ++ more)
after-grows k bs v more e =
    ap (λ (x : List ℕ). after k (x ++ more)) (front_after k bs v e) ∙ ap (after k) (append_assoc k v more) ∙ after_front k (v ++ more)

-- ---- a line and a value by their cut

-- no line ends
pub keyed-endless : (k bs : List ℕ) → Endless (cut_line bs) → keyed k bs ≡ bad
unfolding keyed
keyed-endless k bs p = ⊎_elim (λ (q : cut_line bs ≡ Cut.nothing). rw (q, keyed) refl) (λ (q : cut_line bs ≡ Cut.short). rw (q, keyed) refl) p

-- a line ends
pub keyed-whole : (k bs l rest : List ℕ) → cut_line bs ≡ Cut.whole l rest → keyed k bs ≡ ended (line k l) rest
unfolding keyed
keyed-whole k bs l rest p = rw (p, keyed) refl

value_endless : (bs : List ℕ) → Endless (cut_line bs) → value_of bs ≡ bad
unfolding value_of
value_endless bs p = ⊎_elim (λ (q : cut_line bs ≡ Cut.nothing). rw (q, value_of) refl) (λ (q : cut_line bs ≡ Cut.short). rw (q, value_of) refl) p

-- ---- a line by its key

-- the key is another
pub keyed-other : (k bs : List ℕ) → after (opening k) bs ≡ none → keyed k bs ≡ bad
unfolding line ended
keyed-other k bs h = first (cut_line bs) refl
  where
    first : (c : Cut) → cut_line bs ≡ c → keyed k bs ≡ bad
    first Cut.nothing p = keyed-endless k bs (inl p)
    first Cut.short p = keyed-endless k bs (inr p)
    first (Cut.whole l rest) p = then (after (opening k) l) refl
      where
        then : (o : Option (List ℕ)) → after (opening k) l ≡ o → keyed k bs ≡ bad
        then none q = keyed-whole k bs l rest p ∙ rw (q, line) refl
        then (some v) q =
            let g = after-grows (opening k) l v (newline ∷ rest) q in
            let f : ◌≡◌ {A = Option (List ℕ)} none (some (v ++ (newline ∷ rest))) = sym h ∙ ap (after (opening k)) (cut-whole bs l rest p) ∙ g in
            never cc

-- the key is this one, and it has no LF: the value is the line's
pub keyed-value : (k bs v : List ℕ) → all is_text k ≡ true → after (opening k) bs ≡ some v → keyed k bs ≡ value_of v
unfolding line value_of all
keyed-value k bs v t h = first (cut_line v) refl
  where
    its : bs ≡ opening k ++ v
    its = front_after (opening k) bs v h

    text : all is_text (opening k) ≡ true
    text = all_append is_text k (equals ∷ []) t refl

    endless : Endless (cut_line v) → keyed k bs ≡ value_of v
    endless p = keyed-endless k bs (subst (λ x. Endless (cut_line x)) (sym its) (text_endless (opening k) v text p)) ∙ sym (value_endless v p)

    first : (c : Cut) → cut_line v ≡ c → keyed k bs ≡ value_of v
    first Cut.nothing p = endless (inl p)
    first Cut.short p = endless (inr p)
    first (Cut.whole l rest) p =
        keyed-whole k bs (opening k ++ l) rest (ap cut_line its ∙ text_whole (opening k) v l rest text p) ∙
        rw (after_front (opening k) l, line) (rw (p, value_of) refl)
