-- What the contracts of the entries, as they stand in the code, determine: any two outcomes that one allows are equal, the number and what the slice or
-- the room holds after.
use Prim.Native.Nat.{ℕ, ◌/◌, ◌%◌}
use native.Mathlib.Omega.{arith}
use mathlib.Core.Path.{◌≡◌, sym, ap, ◌∙◌}
use contract.Lifetimes.{Lfts}
use Rattle.sheet.specs.Reads.Slices.{unique_into}
use Rattle.table.specs.Check.{Check, numbers}
use Rattle.table.specs.Check.Exact.{unique as unique-check}
use Rattle.judge.specs.declared.Judgement.{Judgement}
use Rattle.judge.specs.Judge.Into.{unique as unique-judgement}
use Rattle.entry.specs.Packed.{answer_in, value_in, steps_in, judgement_in}
use Rattle.entry.proofs.quyetlumon_read.Reads as R
use Rattle.entry.proofs.quyetlumon_check.Reads as C
use Rattle.entry.proofs.quyetlumon_judge.Reads as J

-- what is above 32 bits is above 24 of what is above 8
above : (r : ℕ) → r / 256 / 16777216 ≡ r / 4294967296
above r = omega arith

low : (r r' : ℕ) → r % 256 ≡ r' % 256 → r / 256 ≡ r' / 256 → r ≡ r'
low r r' a h = omega arith

middle : (q q' : ℕ) → q % 16777216 ≡ q' % 16777216 → q / 16777216 ≡ q' / 16777216 → q ≡ q'
middle q q' v h = omega arith

-- two numbers with the same parts are one
pub parts : (r r' : ℕ) → answer_in r ≡ answer_in r' → value_in r ≡ value_in r' → steps_in r ≡ steps_in r' → r ≡ r'
parts r r' a v s = low r r' a (middle (r / 256) (r' / 256) v (above r ∙ s ∙ sym (above r')))

-- the reader's number, and the slice
pub unique_read : (κs : Lfts 2) (a : _) (r r' : ℕ) (e e' : _) → R.Learnt κs a r e → R.Learnt κs a r' e' →
    (r ≡ r') × (e.1.0.now ≡ e'.1.0.now)
unique_read κs a r r' e e' p q =
    let (x, y) = unique_into a.0.now a.1.0.now (answer_in r, value_in r) (answer_in r', value_in r') e.1.0.now e'.1.0.now p.reads q.reads in
    (parts r r' (ap (λ (o : ℕ × ℕ). o.0) x) (ap (λ (o : ℕ × ℕ). o.1) x) (p.no_steps ∙ sym q.no_steps), y)

-- the check's number
pub unique_told : (κs : Lfts 1) (a : _) (r r' : ℕ) (e e' : _) → C.Learnt κs a r e → C.Learnt κs a r' e' → r ≡ r'
unique_told κs a r r' e e' p q =
    let x = unique-check a.0.now p.told q.told p.checks q.checks in
    parts r r' (p.answer ∙ ap (λ (c : Check). (numbers c).0) x ∙ sym q.answer) (p.value ∙ ap (λ (c : Check). (numbers c).1) x ∙ sym q.value)
    (p.no_steps ∙ sym q.no_steps)

-- the judge's number, and the room
pub unique_judged : (κs : Lfts 3) (a : _) (r r' : ℕ) (e e' : _) → J.Learnt κs a r e → J.Learnt κs a r' e' →
    (r ≡ r') × (e.1.1.0.now ≡ e'.1.1.0.now)
unique_judged κs a r r' e e' p q =
    let (x, y) = unique-judgement a.0.now a.1.0.now a.1.1.0.now (judgement_in r) (judgement_in r') e.1.1.0.now e'.1.1.0.now p q in
    (parts r r' (ap (λ (j : Judgement). j.answer) x) (ap (λ (j : Judgement). j.value) x) (ap (λ (j : Judgement). j.steps) x), y)
