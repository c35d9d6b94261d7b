-- `number`: each return is a case of the form of a number.
use Rattle.sheet.specs.Text.Digits.{number_none, number_many, number_zero, number_some}
use Rattle.sheet.specs.Sheet.{digit0}
use Rattle.std.proofs.Common.{◌≡◌, ◌<◌, length, get_or, drop, ap, ◌∙◌, inl, inr, arith}
use Rattle.std.proofs.lemmas.Slice.{between_to_end}
use Rattle.sheet.proofs.text.number.Goals as goal
use Rattle.sheet.proofs.text.number.Goals.{else-count-gt1-via-then-count-gt1+else-s-eq-DIGIT_0}
use Rattle.sheet.proofs.text.number.Goals.{else-count-gt1-via-else-count-gt1}

pub returns-then-count-eq0 : goal.returns-then-count-eq0
returns-then-count-eq0 c =
    let k = c.digits-count.ensures.counted in
    elim c.then-count-eq0.either [
      | inl p ↦ number_none c.args.s.now k p
      | inr p ↦ number_many c.args.s.now k p.1
    ]

pub returns-then-s-eq-DIGIT_0 : goal.returns-then-s-eq-DIGIT_0
returns-then-s-eq-DIGIT_0 c = number_zero c.args.s.now c.digits-count.ensures.counted c.if-count-gt1.true c.if-s-eq-DIGIT_0.true

pub returns : goal.returns
returns c =
    let s = c.args.s.now in
    let d = c.digits-count in
    let plain : 1 < d.result.0 → get_or s 0 0 ≡ digit0 → ⊥ =
    elim c.else-count-gt1.branch [
      | else-count-gt1-via-then-count-gt1+else-s-eq-DIGIT_0 w ↦ λ _ z. w.if-s-eq-DIGIT_0.false z
      | else-count-gt1-via-else-count-gt1 w ↦ λ h _. let l = w.if-count-gt1.false in omega arith
    ] in
    let z : 0 < d.result.0 = let h = c.if-count-eq0.false in omega arith in
    let (n, k) = number_some s d.ensures.counted z c.if-count-gt-MAX_DIGITS.false plain in
    (n, between_to_end s d.result.0 (length s) (omega arith) ∙ ap (λ x. drop x s) k)
