use Rattle.sheet.specs.Text.Digits.{Counting, counting_start, counting_more, counting_stop, counting_end, counting_many}
use Rattle.sheet.specs.Text.Digits.{tens-few}
use Rattle.sheet.specs.Text.{digits_of, Counted}
use Rattle.std.proofs.Common.{◌≡◌, ℕ, ◌<◌, List, length, sym, subst, arith}
use Rattle.sheet.proofs.text.digits.Goals as goal

-- up to four digits say no more than this
few : {s : List ℕ} {count value : ℕ} → Counting s count value → count < 5 → value < 10000
few {count = count} k h = let a = k.below in let b = tens-few count h in omega arith

pub loop-count-init : goal.loop-count-init
loop-count-init c = counting_start c.args.s.now

pub returns-then-not-is_ascii_digit-clause-counted : goal.returns-then-not-is_ascii_digit-clause-counted
returns-then-not-is_ascii_digit-clause-counted c =
    counting_stop c.loop-count.invariant c.loop-count-test.true (sym c.if-not-is_ascii_digit.ensures.value)

pub returns-then-count-eq-MAX_DIGITS-clause-counted : goal.returns-then-count-eq-MAX_DIGITS-clause-counted
returns-then-count-eq-MAX_DIGITS-clause-counted c =
    counting_many c.loop-count.invariant c.loop-count-test.true (sym c.if-not-is_ascii_digit.ensures.value)
    c.if-count-eq-MAX_DIGITS.true

pub overflow_mul-value : goal.overflow_mul-value
overflow_mul-value c = let s = c.loop-count.invariant.small in omega (arith, few c.loop-count.invariant (omega arith))

pub overflow_add-value : goal.overflow_add-value
overflow_add-value c =
    let s = c.loop-count.invariant.small in
    omega (arith, few c.loop-count.invariant (omega arith), c.if-not-is_ascii_digit.ensures.cases, c.from.ensures)

pub loop-count-preserved : goal.loop-count-preserved
loop-count-preserved c =
    let k = c.loop-count.invariant in
    let d = c.if-not-is_ascii_digit.ensures.cases in
    let s = k.small in
    counting_more k c.from.result c.loop-count-test.true (omega (arith, d, c.from.ensures)) (omega (arith, d))
    (omega arith)

pub returns-clause-counted : goal.returns-clause-counted
returns-clause-counted c =
    let l = c.loop-count in
    let s = c.args.s.now in
    let e : l.count ≡ length s = omega arith in
    subst (λ k. Counted (digits_of s) k l.value) e (counting_end l.invariant (omega arith))
