-- The cut before the last line.
use Rattle.std.proofs.Common.{◌≡◌, ℕ, suc, ◌+◌, ◌<◌, ◌≤◌, List, [], ◌∷◌, ◌++◌, length, get_or, take, drop}
use Rattle.std.proofs.Common.{sym, ap, subst, ◌∙◌, inl, inr, arith, length-drop, length-append}
use Rattle.std.proofs.lemmas.List.{take_more, get_or-drop, get_or_append_left}
use lib.ListN.{take-append-drop}
use Rattle.lines.specs.Basics.{all_nil, impossible}
use Rattle.sheet.specs.Sheet.{newline}
use Rattle.input.specs.Box.{OneLine, LastLine}
use Rattle.input.specs.Box.Last.{single, longer}

-- bytes with no LF but at their end are one line
one_line : (l : List ℕ) → ((k : ℕ) → k + 1 < length l → get_or l k 0 ≡ newline → ⊥) → OneLine l
one_line [] h = inl (all_nil (λ c. c ≡ newline → ⊥))
one_line (b ∷ []) h = single b
one_line (b ∷ (c ∷ l)) h = longer b (c ∷ l) (h 0 (omega arith)) (one_line (c ∷ l) (λ k m. h (suc k) (omega arith)))

-- all bytes but the last one stand before it
module _ (bs front : List ℕ) (x : ℕ) (e : bs ≡ front ++ (x ∷ [])) where
  long : length bs ≡ length front + 1
  long = ap (λ (l : List ℕ). length l) e ∙ length-append front (x ∷ [])

  before : (k : ℕ) → k + 1 < length bs → get_or bs k 0 ≡ get_or front k 0
  before k h = ap (λ (l : List ℕ). get_or l k 0) e ∙ get_or_append_left front (x ∷ []) 0 k (omega (arith, long))

  -- with no LF before the last byte all bytes are the last line, and none stand before it
  pub all_one : ((k : ℕ) → k < length front → get_or front k 0 ≡ newline → ⊥) →
      (s l : List ℕ) → s ≡ [] → l ≡ bs → LastLine bs s l
  all_one none s l y z = record {
    joined = sym z ∙ ap (λ (v : List ℕ). v ++ l) (sym y);
    ended = inl y;
    one = subst OneLine (sym z) (one_line bs (λ k h n. none k (omega (arith, long)) (sym (before k h) ∙ n)));
    filled = λ e. y;
  }

  -- the last line begins after the last LF that stands before the last byte
  pub after_lf : (i : ℕ) → i < length front → get_or front i 0 ≡ newline →
      ((k : ℕ) → i + 1 ≤ k → k < length front → get_or front k 0 ≡ newline → ⊥) →
      LastLine bs (take (i + 1) bs) (drop (i + 1) bs)
  after_lf i l h none = record {
    joined = sym (take-append-drop (i + 1) bs);
    ended = inr (
      take i bs,
      take_more bs i 0 (omega (arith, long)) ∙ ap (λ (y : ℕ). take i bs ++ (y ∷ [])) (before i (omega (arith, long)) ∙ h),
    );
    one = one_line (drop (i + 1) bs) (λ k m n.
        let s : i + 1 + k + 1 < length bs = omega (arith, length-drop (i + 1) bs) in
        let e = sym (get_or-drop (i + 1) bs k 0 ∙ before (i + 1 + k) s) in
        none (i + 1 + k) (omega arith) (omega (arith, long)) (e ∙ n));
    filled = λ z. let k = ap (λ (y : List ℕ). length y) z in impossible (omega (arith, long, length-drop (i + 1) bs));
  }
