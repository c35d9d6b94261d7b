-- Texts put one after the other, and a number's decimal digits.
use Prim.Native.Nat.{ℕ, zero, suc, ◌+◌, ◌-◌, ◌/◌, ◌%◌, ◌^◌, ◌≤◌, ◌<◌}
use native.Mathlib.Omega.{arith}
use native.Mathlib.Nat.{zero-add, pow-suc, one-le-pow}
use mathlib.Core.Path.{◌≡◌, sym, ap, ◌∙◌, subst}
use mathlib.Core.Bool.{Bool, cond}
use mathlib.Core.List.{List, [], ◌∷◌, ◌++◌, append_assoc}
use lib.ListN.{length, take, drop, length-append}
use lib.Seq.{length-take-le, take_at, drop_at, drop-drop}
use borrow.Author.Tests.{lt-ltb, le-ltb}
use Rattle.io.specs.Counts.{IsPrefixLen}
use Rattle.io.specs.Digits.{hex_digit_ascii, last_digits, IsDigitCount}
use Rattle.lines.specs.Basics.{impossible}
use Rattle.sheet.specs.Sheet.{digit0, newline, digits_within, in_front}
use Rattle.sheet.specs.Quoted.{ascii}
use Rattle.judge.specs.declared.Judgement.{Judgement}
use Rattle.input.specs.Shown.{max_places, shown_line, three_lines, put_at, Put}

-- ---- texts

-- a text after another is both as one text
put_both : (out : List ℕ) (at : ℕ) (xs ys : List ℕ) → at ≤ length out → put_at (put_at out at xs) (at + length xs) ys ≡ put_at out at (xs ++ ys)
put_both out at xs ys h =
    let n : length (take at out ++ xs) ≡ at + length xs = length-append (take at out) xs ∙ ap (λ (k : ℕ). k + length xs) (length-take-le at out h) in
    let p : take (at + length xs) (put_at out at xs) ≡ take at out ++ xs = take_at (take at out ++ xs) (drop (at + length xs) out) (at + length xs) n in
    let q : drop (at + length xs) (put_at out at xs) ≡ drop (at + length xs) out = drop_at (take at out ++ xs) (drop (at + length xs) out) (at + length xs) n in
    let e : at + length xs + length ys ≡ at + length (xs ++ ys) = let m = length-append xs ys in omega arith in
    let r : drop (at + length xs + length ys) (put_at out at xs) ≡ drop (at + length (xs ++ ys)) out =
    sym (drop-drop (length ys) (at + length xs) (put_at out at xs)) ∙ ap (drop (length ys)) q ∙ drop-drop (length ys) (at + length xs) out ∙
    ap (λ (k : ℕ). drop k out) e in
    (λ i. (p i ++ ys) ++ r i) ∙ ap (λ (x : List ℕ). x ++ drop (at + length (xs ++ ys)) out) (append_assoc (take at out) xs ys)

-- the same of what was put
put_then : {out out₁ out₂ xs ys : List ℕ} {at a b : ℕ} → at ≤ length out → Put out at xs a out₁ → Put out₁ a ys b out₂ → Put out at (xs ++ ys) b out₂
put_then {out} {out₁} {out₂} {xs} {ys} {at} {a} {b} h p q = record {
  its_end = let m = length-append xs ys in omega (arith, p.its_end, q.its_end);
  its_bytes = q.its_bytes ∙ (λ i. put_at (p.its_bytes i) (p.its_end i) ys) ∙ put_both out at xs ys h;
}

-- ---- digits

-- the glyph of a decimal digit
decimal_glyph : (d : ℕ) → d < 10 → hex_digit_ascii d ≡ digit0 + d
decimal_glyph d h = ap (λ (t : Bool). cond t (48 + d) (87 + d)) (lt-ltb d 10 h)

-- the fewest digits are those without a leading zero
fewest_digits : (f k n : ℕ) → IsDigitCount 10 1 n k → k ≤ f → last_digits 10 k n ≡ digits_within f n
unfolding digits_within
fewest_digits f zero n h l = impossible (omega (arith, h.0))
fewest_digits zero (suc k) n h l = impossible (omega arith)
fewest_digits (suc f) (suc zero) n h l =
    let s : n < 10 = h.1 in
    rw (lt-ltb n 10 s, digits_within) (ap (λ (x : ℕ). x ∷ []) (decimal_glyph (n % 10) (omega arith) ∙ omega arith))
fewest_digits (suc f) (suc (suc k)) n h l =
    let some : 10 ^ suc k ≤ n = subst (λ (x : ℕ). 10 ^ x ≤ n) (let e : suc (suc k) - 1 ≡ suc k = omega arith in e) (h.2 (omega arith)) in
    let p = pow-suc 10 k in
    let q = pow-suc 10 (suc k) in
    let o = one-le-pow k 10 (omega arith) in
    let less : IsDigitCount 10 1 (n / 10) (suc k) = (
      omega arith,
      omega (arith, h.1),
      λ z. subst (λ (x : ℕ). 10 ^ x ≤ n / 10) (let e : k ≡ suc k - 1 = omega arith in e) (omega arith),
    ) in
    rw (le-ltb n 10 (omega arith), digits_within)
    ((λ i. fewest_digits f (suc k) (n / 10) less (omega arith) i ++ (decimal_glyph (n % 10) (omega arith) i ∷ [])))

-- ---- lines

-- a key, the fewest digits of a number, and LF are its line
pub line_put : {out out₁ out₂ out₃ key ds : List ℕ} {at a b r : ℕ} (n k : ℕ) → at ≤ length out → IsDigitCount 10 1 n k → k ≤ max_places → ds ≡ last_digits 10 k n →
    Put out at key a out₁ → Put out₁ a ds b out₂ → Put out₂ b (newline ∷ []) r out₃ → Put out at (shown_line key n) r out₃
unfolding shown_line
line_put {out} {out₁} {out₂} {out₃} {key} {at = at} {a = a} {b = b} {r = r} n k h f m e p q s =
    let d = e ∙ fewest_digits max_places k n f m in
    subst (λ (x : List ℕ). Put out at x r out₃) (append_assoc key (digits_within max_places n) (newline ∷ []))
    (put_then h (put_then h p (subst (λ (x : List ℕ). Put out₁ a x b out₂) d q)) s)

-- the three lines at the front
pub three_put : {out out₁ out₂ out₃ : List ℕ} {a b r : ℕ} (j : Judgement) → Put out 0 (shown_line (ascii "answer=") j.answer) a out₁ →
    Put out₁ a (shown_line (ascii "value=") j.value) b out₂ → Put out₂ b (shown_line (ascii "steps=") j.steps) r out₃ →
    IsPrefixLen r out₃ × ((r ≡ length (three_lines j)) × (out₃ ≡ in_front (three_lines j) out))
unfolding three_lines ascii
three_put {out} {out₃ = out₃} {r = r} j p q s =
    let answer = shown_line (ascii "answer=") j.answer in
    let value = shown_line (ascii "value=") j.value in
    let steps = shown_line (ascii "steps=") j.steps in
    let z : Put out 0 (three_lines j) r out₃ =
    subst (λ (x : List ℕ). Put out 0 x r out₃) (append_assoc answer value steps)
    (put_then (omega arith) (put_then (omega arith) p q) s) in
    let from_zero = zero-add (length (three_lines j)) in
    let e : r ≡ length (three_lines j) = omega (arith, z.its_end) in
    let text : out₃ ≡ in_front (three_lines j) out =
    z.its_bytes ∙ ap (λ (i : ℕ). three_lines j ++ drop i out) from_zero in
    let n = ap (λ (x : List ℕ). length x) text ∙ length-append (three_lines j) (drop (length (three_lines j)) out) in
    let k : r ≤ length out₃ = omega arith in
    ((k, sym (length-take-le r out₃ k)), (e, text))
