-- What the contracts of `judge_box`, `judge_large` and `three_lines`, as they stand in the code, settle.
use Prim.Native.Nat.{ℕ, ◌≤◌, ◌<◌}
use mathlib.Core.Path.{◌≡◌, sym, ◌∙◌, subst}
use mathlib.Core.List.{List, Memᴰ as Mem}
use contract.Lifetimes.{Lfts}
use Rattle.theory.specs.Table.{Table}
use Rattle.sheet.specs.Tail.{Words, tail_line}
use Rattle.judge.specs.Judge.{Good, Ready}
use Rattle.judge.specs.declared.Judgement.{Judgement}
use Rattle.input.specs.Box.{small_box, large_box, Boxes, Given, numbers_of}
use Rattle.input.proofs.Box.Exact.{unique as one-outcome}
use Rattle.input.specs.Box.Worth.{Worthy}
use Rattle.input.proofs.Box.Worth.{box_demands, box_not_refused}
use Rattle.input.specs.Box.Answers.{no_steps}
use Rattle.input.specs.Marked.{Case, cases}
use Rattle.input.proofs.Marked.{marked}
use Rattle.input.proofs.judge_box.Reads as B
use Rattle.input.proofs.judge_large.Reads as L
use Rattle.input.proofs.shown.three_lines.Reads as T

-- any two judgements that the contract of `judge_box` allows are equal: answer, value and steps
pub unique : (κs : Lfts 1) (a : _) (r r' : Judgement) (e e' : _) → B.Learnt κs a r e → B.Learnt κs a r' e' → r ≡ r'
unique κs a r r' e e' p q = one-outcome small_box a.0.now r r' p q

-- the same of `judge_large`
pub large_unique : (κs : Lfts 1) (a : _) (r r' : Judgement) (e e' : _) → L.Learnt κs a r e → L.Learnt κs a r' e' → r ≡ r'
large_unique κs a r r' e e' p q = one-outcome large_box a.0.now r r' p q

-- any two outcomes that the contract of `three_lines` allows are equal: the count of bytes, and every byte of the array
pub lines_unique : (κs : Lfts 1) (a : _) (r r' : ℕ) (e e' : _) → T.Learnt κs a r e → T.Learnt κs a r' e' →
    (r ≡ r') × (e.1.0.now ≡ e'.1.0.now)
lines_unique κs a r r' e e' p q = (p.1.0 ∙ sym q.1.0, p.1.1 ∙ sym q.1.1)

-- a judgement that is no refusal is worth demands 2 and 3
pub worthy : (κs : Lfts 1) (a : _) (r : Judgement) (e : _) → B.Learnt κs a r e → r.answer < 2 → Worthy small_box a.0.now r
worthy κs a r e p l = box_demands p l

-- the sheet of a table which passes, and the line of a tail that is ready, are not refused
pub judged : (κs : Lfts 1) (a : _) (r : Judgement) (e : _) → B.Learnt κs a r e → (last xs : List ℕ) (t : Table) →
    Given small_box a.0.now last t → last ≡ tail_line xs → Words xs → Good (numbers_of t) t → Ready small_box.tokens xs small_box.words t →
    (r.answer < 2) × Worthy small_box a.0.now r
judged κs a r e p last xs t g s w o y = let l = box_not_refused g s w o y p in (l, box_demands p l)

-- the same of `judge_large`
pub large_judged : (κs : Lfts 1) (a : _) (r : Judgement) (e : _) → L.Learnt κs a r e → (last xs : List ℕ) (t : Table) →
    Given large_box a.0.now last t → last ≡ tail_line xs → Words xs → Good (numbers_of t) t → Ready large_box.tokens xs large_box.words t →
    (r.answer < 2) × Worthy large_box a.0.now r
large_judged κs a r e p last xs t g s w o y = let l = box_not_refused g s w o y p in (l, box_demands p l)

-- every refusal has no steps
pub refused : (κs : Lfts 1) (a : _) (r : Judgement) (e : _) → B.Learnt κs a r e → 2 ≤ r.answer → r.steps ≡ 0
refused κs a r e p l = no_steps p l

-- the marked cases: what comes back for each input is what document 01 says
pub marked_so : (κs : Lfts 1) (a : _) (r : Judgement) (e : _) → B.Learnt κs a r e →
    (c : Case) → Mem c cases → a.0.now ≡ c.input → r ≡ c.back
marked_so κs a r e p c m s = (marked c m).no_other r (subst (λ (x : List ℕ). Boxes small_box x r) s p)
