-- The last line of an input: every input has one, and only one.
use Rattle.std.specs.Prelude.{ℕ, ◌≡◌, refl, Bool, true, false, List, [], ◌∷◌, ◌++◌, length, eqb}
use Rattle.std.proofs.Common.{arith, sym, ap, ◌∙◌, subst, inl, inr, append_assoc, length-append, eqb-true, ne_eqb}
use mathlib.Core.List.Memᴰ.{head as Mem·head}
use mathlib.Core.List.Memᴰ.{tail as Mem·tail}
use Rattle.std.proofs.lemmas.Bool.{eqb-false}
use Rattle.lines.specs.Basics.{all_nil, all_cons, never, impossible}
use Rattle.sheet.specs.Sheet.{newline, NoLf}
use Rattle.input.specs.Box.{Ended, OneLine, LastLine, put_byte, cut_last}

-- one byte is one line
pub single : (b : ℕ) → OneLine (b ∷ [])
single b = at (eqb b newline) refl
  where
    at : (t : Bool) → eqb b newline ≡ t → OneLine (b ∷ [])
    at true p = inr ([], all_nil (λ c. c ≡ newline → ⊥), ap (λ (x : ℕ). x ∷ []) (eqb-true b newline p))
    at false p = inl (all_cons (λ c. c ≡ newline → ⊥) (eqb-false b newline p) (all_nil (λ c. c ≡ newline → ⊥)))

-- a byte that is no LF makes one line longer
pub longer : (b : ℕ) (l : List ℕ) → (b ≡ newline → ⊥) → OneLine l → OneLine (b ∷ l)
longer b l h (inl n) = inl (all_cons (λ c. c ≡ newline → ⊥) h n)
longer b l h (inr (m, n, e)) = inr (b ∷ m, all_cons (λ c. c ≡ newline → ⊥) h n, ap (λ (x : List ℕ). b ∷ x) e)

-- one byte more before lines that are cut before the last one
put_byte_law : (b : ℕ) (bs s l : List ℕ) → LastLine bs s l → LastLine (b ∷ bs) (put_byte b s l).0 (put_byte b s l).1
unfolding put_byte
put_byte_law b bs [] [] h = record {
  joined = ap (λ (x : List ℕ). b ∷ x) h.joined;
  ended = inl refl;
  one = single b;
  filled = λ e. refl;
}
put_byte_law b bs [] (c ∷ l) h = at (eqb b newline) refl
  where
    at : (t : Bool) → eqb b newline ≡ t → LastLine (b ∷ bs) (put_byte b [] (c ∷ l)).0 (put_byte b [] (c ∷ l)).1
    at true p = rw (p, put_byte) (record {
      joined = ap (λ (x : List ℕ). b ∷ x) h.joined;
      ended = inr ([], ap (λ (x : ℕ). x ∷ []) (eqb-true b newline p));
      one = h.one;
      filled = λ e. never cc;
    })
    at false p = rw (p, put_byte) (record {
      joined = ap (λ (x : List ℕ). b ∷ x) h.joined;
      ended = inl refl;
      one = longer b (c ∷ l) (eqb-false b newline p) h.one;
      filled = λ e. never cc;
    })
put_byte_law b bs (c ∷ s) l h = record {
  joined = ap (λ (x : List ℕ). b ∷ x) h.joined;
  ended = longer h.ended;
  one = h.one;
  filled = λ e. let z : c ∷ s ≡ [] = h.filled e in never cc;
}
  where
    longer : Ended (c ∷ s) → Ended (b ∷ (c ∷ s))
    longer (inl e) = never cc
    longer (inr (front, e)) = inr (b ∷ front, ap (λ (x : List ℕ). b ∷ x) e)

-- every input has a last line
pub cut_last_law : (bs : List ℕ) → LastLine bs (cut_last bs).0 (cut_last bs).1
unfolding cut_last
cut_last_law [] = record { joined = refl; ended = inl refl; one = inl (all_nil (λ c. c ≡ newline → ⊥)); filled = λ e. refl }
cut_last_law (b ∷ bs) = put_byte_law b bs (cut_last bs).0 (cut_last bs).1 (cut_last_law bs)

-- bytes without LF are one line
cut_nolf : (l : List ℕ) → NoLf l → cut_last l ≡ ([], l)
unfolding cut_last put_byte
cut_nolf [] n = refl
cut_nolf (b ∷ []) n = refl
cut_nolf (b ∷ (c ∷ l)) n = rw (cut_nolf (c ∷ l) (λ x m. n x (Mem·tail m)), cut_last, put_byte) (rw (ne_eqb b newline (n b (Mem·head refl))) refl)

-- and so are such bytes with their LF
cut_line_law : (l : List ℕ) → NoLf l → cut_last (l ++ (newline ∷ [])) ≡ ([], l ++ (newline ∷ []))
unfolding cut_last put_byte
cut_line_law [] n = refl
cut_line_law (b ∷ []) n = rw (ne_eqb b newline (n b (Mem·head refl)), put_byte) refl
cut_line_law (b ∷ (c ∷ l)) n = rw (cut_line_law (c ∷ l) (λ x m. n x (Mem·tail m)), cut_last, put_byte) (rw (ne_eqb b newline (n b (Mem·head refl))) refl)

cut_one : (l : List ℕ) → OneLine l → cut_last l ≡ ([], l)
cut_one l (inl n) = cut_nolf l n
cut_one l (inr (m, n, e)) = ap cut_last e ∙ (cut_line_law m n ∙ ap (λ (x : List ℕ). ([], x)) (sym e))

-- lines before it are cut off
cut_front : (front : List ℕ) (c : ℕ) (l : List ℕ) → OneLine (c ∷ l) → cut_last (front ++ (newline ∷ (c ∷ l))) ≡ (front ++ (newline ∷ []), c ∷ l)
unfolding cut_last put_byte
cut_front [] c l o = rw (cut_one (c ∷ l) o, cut_last, put_byte) refl
cut_front (b ∷ []) c l o = rw (cut_front [] c l o, cut_last, put_byte) refl
cut_front (b ∷ (d ∷ front)) c l o = rw (cut_front (d ∷ front) c l o, cut_last, put_byte) refl

-- the last line is the only one
pub last-only : (bs sheet last : List ℕ) → LastLine bs sheet last → cut_last bs ≡ (sheet, last)
last-only bs sheet last h = ap cut_last h.joined ∙ at sheet last h.ended h.one h.filled
  where
    at : (s l : List ℕ) → Ended s → OneLine l → (l ≡ [] → s ≡ []) → cut_last (s ++ l) ≡ (s, l)
    at s l (inl e) o f = subst (λ (x : List ℕ). cut_last (x ++ l) ≡ (x, l)) (sym e) (cut_one l o)
    at s [] (inr (front, e)) o f =
        let z = ap (λ (x : List ℕ). length x) (sym (f refl) ∙ e) ∙ length-append front (newline ∷ []) in
        impossible (omega arith)
    at s (c ∷ l) (inr (front, e)) o f =
        subst (λ (x : List ℕ). cut_last (x ++ (c ∷ l)) ≡ (x, c ∷ l)) (sym e)
        (ap cut_last (append_assoc front (newline ∷ []) (c ∷ l)) ∙ cut_front front c l o)
