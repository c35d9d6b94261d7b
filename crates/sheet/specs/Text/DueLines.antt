-- Laws of the line that is due: its key in front of its value; and what such a line makes of the reading of a sheet.
use Rattle.std.specs.Prelude.{ℕ, suc, ◌≤◌, ◌≡◌, true, false, ◌≢◌, Option as Found, Some, None, MatchOption}
use Rattle.std.proofs.Common.{arith, ◌∙◌, inl, inr, ⊎_elim, length-append}
use Rattle.std.proofs.Math.Path.{refl, sym, ap}
use Rattle.std.proofs.Math.Option.{Option, none, some}
use mathlib.Core.List.{List, [], ◌∷◌, ◌++◌}
use Rattle.std.proofs.Math.ListN.{length}
use Rattle.lines.specs.Basics.{never, impossible}
use Rattle.lines.specs.Lines.{Due, key, is_end, Draft, accept, Cut}
use Rattle.sheet.specs.Sheet.{equals, after, due_line, cut_line, Read, sheet_at}
use Rattle.sheet.specs.Sheet.Forms.{key-text, cut-nothing, after_front}
use Rattle.sheet.specs.Sheet.Steps.{at_short, at_bad, at_unfit, at_fit}
use Rattle.sheet.specs.Text.{bad, has, ended, value_of, keyed, line_of, Opened}
use Rattle.sheet.specs.Text.Keys.{after-other}
use Rattle.sheet.specs.Text.Keyed.{opening, keyed-endless, keyed-whole, keyed-other, keyed-value}
use denote.Ref.{Bor}
use Rattle.sheet.specs.Text.Values.{Endless}

-- ---- a line by its cut

line_endless : (w : Due) (bs : List ℕ) → Endless (cut_line bs) → line_of w bs ≡ bad
unfolding line_of
line_endless w bs p = ⊎_elim (λ (q : cut_line bs ≡ Cut.nothing). rw (q, line_of) refl) (λ (q : cut_line bs ≡ Cut.short). rw (q, line_of) refl) p

line_whole : (w : Due) (bs l rest : List ℕ) → cut_line bs ≡ Cut.whole l rest → line_of w bs ≡ ended (due_line w l) rest
unfolding line_of
line_whole w bs l rest p = rw (p, line_of) refl

-- ---- a line by its key

-- where no line is due every line is extra
pub line_extra : (w : Due) (bs : List ℕ) → is_end w ≡ true → line_of w bs ≡ bad
unfolding due_line ended
line_extra w bs e = first (cut_line bs) refl
  where
    first : (c : Cut) → cut_line bs ≡ c → line_of w bs ≡ bad
    first Cut.nothing p = line_endless w bs (inl p)
    first Cut.short p = line_endless w bs (inr p)
    first (Cut.whole l rest) p = line_whole w bs l rest p ∙ rw (e, due_line) refl

-- a line that is due is one with its key
line_keyed : (w : Due) (bs : List ℕ) → is_end w ≡ false → line_of w bs ≡ keyed (key w) bs
unfolding due_line
line_keyed w bs e = first (cut_line bs) refl
  where
    first : (c : Cut) → cut_line bs ≡ c → line_of w bs ≡ keyed (key w) bs
    first Cut.nothing p = line_endless w bs (inl p) ∙ sym (keyed-endless (key w) bs (inl p))
    first Cut.short p = line_endless w bs (inr p) ∙ sym (keyed-endless (key w) bs (inr p))
    first (Cut.whole l rest) p = line_whole w bs l rest p ∙ rw (e, due_line) (sym (keyed-whole (key w) bs l rest p))

-- the key is another
line_other : (w : Due) (bs : List ℕ) → is_end w ≡ false → after (opening (key w)) bs ≡ none → line_of w bs ≡ bad
line_other w bs e h = line_keyed w bs e ∙ keyed-other (key w) bs h

-- the key is the one that is due: the value is the line's
line_value : (w : Due) (bs v : List ℕ) → is_end w ≡ false → after (opening (key w)) bs ≡ some v → line_of w bs ≡ value_of v
line_value w bs v e h = line_keyed w bs e ∙ keyed-value (key w) bs v (key-text w) h

-- a key has two bytes at least
key-long : (w : Due) → is_end w ≡ false → 2 ≤ length (key w)
unfolding key is_end
key-long Due.terms e = omega arith
key-long Due.nonterms e = omega arith
key-long Due.rules e = omega arith
key-long Due.rule e = omega arith
key-long Due.states e = omega arith
key-long Due.state e = omega arith
key-long Due.item e = omega arith
key-long Due.go e = omega arith
key-long Due.end e = never cc

-- the value behind the key that is due, if that stands in front
pub opened : (w : Due) (s k : List ℕ) → is_end w ≡ false → k ≡ opening (key w) → (r : Found (Bor (List ℕ))) →
    MatchOption r ((rest : List ℕ) → s ≢ k ++ rest) (λ v. s ≡ k ++ v.now) → Opened w s r
opened w s k e q None n =
    line_other w s e (after-other (opening (key w)) s (λ v p. n v (p ∙ ap (λ (x : List ℕ). x ++ v) (sym q))))
opened w s k e q (Some v) p =
    let l = key-long w e in
    let a = ap (λ (x : List ℕ). length x) p ∙ length-append k v.now in
    let b = ap (λ (x : List ℕ). length x) q ∙ length-append (key w) (equals ∷ []) in (
      omega arith,
      line_value w s v.now e
          (ap (after (opening (key w))) (p ∙ ap (λ (x : List ℕ). x ++ v.now) q) ∙ after_front (opening (key w)) v.now),
    )

-- ---- what a line makes of the reading of a sheet

-- the line is cut off and read
line_parts : (w : Due) (bs xs rest : List ℕ) → line_of w bs ≡ has xs rest → (l : List ℕ) × (cut_line bs ≡ Cut.whole l rest) × (due_line w l ≡ some xs)
unfolding ended
line_parts w bs xs rest e = first (cut_line bs) refl
  where
    first : (c : Cut) → cut_line bs ≡ c → (l : List ℕ) × (cut_line bs ≡ Cut.whole l rest) × (due_line w l ≡ some xs)
    first Cut.nothing p = let h : bad ≡ has xs rest = sym (line_endless w bs (inl p)) ∙ e in never cc
    first Cut.short p = let h : bad ≡ has xs rest = sym (line_endless w bs (inr p)) ∙ e in never cc
    first (Cut.whole l r) p = then (due_line w l) refl
      where
        then : (o : Option (List ℕ)) → due_line w l ≡ o → (l : List ℕ) × (cut_line bs ≡ Cut.whole l rest) × (due_line w l ≡ some xs)
        then none q = let h : bad ≡ has xs rest = sym (line_whole w bs l r p ∙ ap (λ (o : Option (List ℕ)). ended o r) q) ∙ e in never cc
        then (some ys) q =
            let h : has ys r ≡ has xs rest = sym (line_whole w bs l r p ∙ ap (λ (o : Option (List ℕ)). ended o r) q) ∙ e in
            (l, let x : r ≡ rest = cc in p ∙ ap (λ (y : List ℕ). Cut.whole l y) x, let y : ys ≡ xs = cc in q ∙ ap (λ (z : List ℕ). some z) y)

module _ (at : ℕ) (ns : List ℕ) (d : Draft) (bs : List ℕ) where
  -- 11
  pub sheet_bad : 1 ≤ length bs → line_of d.due bs ≡ bad → sheet_at at ns d bs ≡ Read.bad at
  unfolding ended
  sheet_bad h e = first (cut_line bs) refl
    where
      first : (c : Cut) → cut_line bs ≡ c → sheet_at at ns d bs ≡ Read.bad at
      first Cut.nothing p = let l = ap (λ (x : List ℕ). length x) (cut-nothing bs p) in impossible (omega arith)
      first Cut.short p = at_short at ns d bs p
      first (Cut.whole l rest) p = then (due_line d.due l) refl
        where
          then : (o : Option (List ℕ)) → due_line d.due l ≡ o → sheet_at at ns d bs ≡ Read.bad at
          then none q = at_bad at ns d bs l rest p q
          then (some xs) q =
              let h : has xs rest ≡ bad = sym (line_whole d.due bs l rest p ∙ ap (λ (o : Option (List ℕ)). ended o rest) q) ∙ e in never cc

  -- 12
  pub sheet_unfit : (xs rest : List ℕ) → line_of d.due bs ≡ has xs rest → accept d xs ≡ none → sheet_at at ns d bs ≡ Read.unfit at
  sheet_unfit xs rest e f = let (l, p, q) = line_parts d.due bs xs rest e in at_unfit at ns d bs l rest xs p q f

  -- the line is taken in
  pub sheet_fit : (xs rest : List ℕ) (f : Draft) → line_of d.due bs ≡ has xs rest → accept d xs ≡ some f →
      sheet_at at ns d bs ≡ sheet_at (suc at) (ns ++ (length xs ∷ xs)) f rest
  sheet_fit xs rest f e g = let (l, p, q) = line_parts d.due bs xs rest e in at_fit at ns d f bs l rest xs p q g
