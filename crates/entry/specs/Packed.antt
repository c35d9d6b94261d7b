-- Outcomes in one number each: the answer in its lowest 8 bits, the value in the next 24, the steps above them. The contracts of the entries say
-- of these parts of the number what the contracts of reader, check and judge say of answer, value and steps.
use Rattle.std.specs.Prelude.{ℕ, ◌/◌, ◌%◌, ◌<◌, ◌≡◌, List}
use Rattle.sheet.specs.Reads.{ReadsInto}
use Rattle.table.specs.Check.{Check, Checks, numbers}
use Rattle.judge.specs.Judge.Into.{JudgesInto}
use Rattle.judge.specs.declared.Judgement.{Judgement}

-- the answer in a number
abbrev pub answer_in : ℕ → ℕ
answer_in r = r % 256

-- the value in a number
abbrev pub value_in : ℕ → ℕ
value_in r = r / 256 % 16777216

-- the steps in a number
abbrev pub steps_in : ℕ → ℕ
steps_in r = r / 4294967296

-- the judgement in a number
abbrev pub judgement_in : ℕ → Judgement
judgement_in r = record { answer = answer_in r; value = value_in r; steps = steps_in r }

-- a judgement that has room in a number
abbrev pub Fits : Judgement → Type 0
Fits j = (j.answer < 256) × (j.value < 16777216) × (j.steps < 4294967296)

-- what the reader's number tells of a sheet, and what the slice holds after
pub record ReadsAs (bytes before : List ℕ) (r : ℕ) (after : List ℕ) : Type 0 where
  pub reads : ReadsInto bytes before (answer_in r, value_in r) after
  pub no_steps : steps_in r ≡ 0

-- what the check's number tells of a table as numbers
pub record ChecksAs (table : List ℕ) (r : ℕ) : Type 0 where
  pub told : Check
  pub checks : Checks table told
  pub answer : answer_in r ≡ (numbers told).0
  pub value : value_in r ≡ (numbers told).1
  pub no_steps : steps_in r ≡ 0

-- what the judge's number tells of a table as numbers, a tail and a room, and the room after
abbrev pub JudgesAs : List ℕ → List ℕ → List ℕ → ℕ → List ℕ → Type 0
JudgesAs table tail before r after = JudgesInto table tail before (judgement_in r) after
