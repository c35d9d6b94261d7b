-- The answers that can come out of the program, and their steps.
use Rattle.std.specs.Prelude.{ℕ, ◌≤◌, ◌≡◌, refl, List, [], ◌∷◌, Ok, Err}
use Rattle.std.proofs.Common.{arith, subst}
use Rattle.std.proofs.lemmas.Bool.{false≢true}
use mathlib.Core.List.{Memᴰ as Mem}
use Rattle.theory.specs.Table.{has}
use Rattle.theory.proofs.Table.Actions.{has-mem, mem_has}
use Rattle.lines.specs.Basics.{impossible}
use Rattle.table.specs.Check.{Check, numbers}
use Rattle.table.specs.declared.Fault.{Fault}
use Rattle.sheet.specs.Reads.{Reads}
use Rattle.judge.specs.Judge.{JudgesUpTo}
use Rattle.judge.specs.Judge.Demands.{refusal_steps}
use Rattle.judge.specs.declared.Judgement.{Judgement}
use Rattle.input.specs.Box.{Box, Boxes}
use Rattle.input.specs.Box.Sizes.{Roomy, always_room}

-- document 01's answers without 13
unfoldable pub answers : List ℕ
answers = 0 ∷ 1 ∷ 10 ∷ 11 ∷ 12 ∷ 20 ∷ 21 ∷ 22 ∷ 30 ∷ 31 ∷ 32 ∷ []

-- the check's refusals are among them
of_check : (c : Check) → ((numbers c).0 ≡ 0 → ⊥) → Mem (numbers c).0 answers
unfolding numbers answers has
of_check (Ok m) n = absurd (n refl)
of_check (Err Fault.TooLong) n = has-mem answers 10 refl
of_check (Err (Fault.Unfit m)) n = has-mem answers 12 refl
of_check (Err (Fault.NotReduced v)) n = has-mem answers 20 refl
of_check (Err (Fault.Ring v)) n = has-mem answers 21 refl
of_check (Err (Fault.Broken k s)) n = has-mem answers 22 refl

-- so are the judge's answers
of_judge : {limit : ℕ} {ns tail : List ℕ} {room : ℕ} {j : Judgement} → JudgesUpTo limit ns tail room j → Mem j.answer answers
unfolding answers has
of_judge (JudgesUpTo.refused c h n) = of_check c n
of_judge (JudgesUpTo.over t g h) = has-mem answers 30 refl
of_judge (JudgesUpTo.strange t i g h s) = has-mem answers 31 refl
of_judge (JudgesUpTo.no_room t g h ts r) = has-mem answers 32 refl
of_judge (JudgesUpTo.piece t k g r y) = has-mem answers 0 refl
of_judge (JudgesUpTo.stop t i k g r y) = has-mem answers 1 refl

-- where the numbers of every table have room, every answer is among them
pub answered : {b : Box} {bs : List ℕ} {j : Judgement} → Roomy b → Boxes b bs j → Mem j.answer answers
unfolding answers has
answered m (Boxes.over h) = has-mem answers 10 refl
answered m (Boxes.unread sheet last a v i (Reads.over h) n) = has-mem answers 10 refl
answered m (Boxes.unread sheet last a v i (Reads.bad k o s) n) = has-mem answers 11 refl
answered m (Boxes.unread sheet last a v i (Reads.unfit k o s) n) = has-mem answers 12 refl
answered m (Boxes.unread sheet last a v i (Reads.short t s h) n) = let k = always_room m i t s in impossible (omega arith)
answered m (Boxes.unread sheet last a v i (Reads.good t s h) n) = absurd (n refl)
answered m (Boxes.bad_tail last t g h) = has-mem answers 11 refl
answered m (Boxes.unfit_tail last xs t g p s h) = has-mem answers 12 refl
answered m (Boxes.judged last xs t j g p w h) = of_judge h

-- so none is 13
pub never_13 : {b : Box} {bs : List ℕ} {j : Judgement} → Roomy b → Boxes b bs j → j.answer ≡ 13 → ⊥
unfolding answers has
never_13 m h e = false≢true (mem_has (subst (λ (x : ℕ). Mem x answers) e (answered m h)))

-- a refusal has no steps
pub no_steps : {b : Box} {bs : List ℕ} {j : Judgement} → Boxes b bs j → 2 ≤ j.answer → j.steps ≡ 0
no_steps (Boxes.over h) l = refl
no_steps (Boxes.unread sheet last a v i r n) l = refl
no_steps (Boxes.bad_tail last t g h) l = refl
no_steps (Boxes.unfit_tail last xs t g p s h) l = refl
no_steps (Boxes.judged last xs t j g p w h) l = refusal_steps h l
