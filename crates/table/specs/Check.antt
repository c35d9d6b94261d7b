-- The table check of numbers: its answer as a relation, one case for each row of document 01's table of numbers, and as a program; and document
-- 01's number and value of each answer. `Check.Exact` proves that of all numbers exactly one answer holds: that of the program.
use Rattle.std.specs.Prelude.{Result, Ok, Err}
use Rattle.table.specs.declared.Fault.{Fault}
use Rattle.std.specs.Prelude.{ℕ, ◌≤◌, ◌<◌, ◌≡◌, false, List, [], ◌∷◌, ◌++◌, length}
use Rattle.theory.specs.Table.{Table, count}
use Rattle.lines.specs.Limits.{max_numbers}
use Rattle.lines.specs.Lines.{Draft, start, is_end, Front, fits, flat, Lined, read_numbers, table_of}
use Rattle.lines.specs.Ranges.{FitLines}
use Rattle.table.specs.Checks.{Answer, Checked}
use Rattle.table.specs.Run.{checks}
pub mod Exact

-- ---- where the lines of numbers do not fit

-- the line that is due is missing, or ends early, or its numbers do not fit; where none is due no line fits
pub data UnfitLine (d : Draft) (ns : List ℕ) : Type 0 where
  missing : ns ≡ [] → is_end d.due ≡ false → UnfitLine d ns
  ends_early : (n : ℕ) (more : List ℕ) → ns ≡ n ∷ more → length more < n → UnfitLine d ns
  no_fit : (xs more : List ℕ) → ns ≡ length xs ∷ (xs ++ more) → fits d xs ≡ false → UnfitLine d ns

-- after n lines in order comes one that does not fit
pub record Stops (d : Draft) (ns : List ℕ) (n : ℕ) : Type 0 where
  pub before : List (List ℕ)
  pub draft : Draft
  pub rest : List ℕ
  pub in_order : Front d before draft
  pub line : length before ≡ n
  pub numbers : ns ≡ flat before ++ rest
  pub refused : UnfitLine draft rest

-- ---- the outcome

-- what the check tells: the count of states of a table that passes, or its fault
abbrev pub Check : Type 0
Check = Result ℕ Fault

-- the numbers are those of the table, and it has this answer
abbrev pub Gets : List ℕ → Table → Answer → Type 0
Gets ns t a = FitLines ns t × Checked t a

-- of a table as numbers the answer
pub data Checks (ns : List ℕ) : Check → Type 0 where
  over : max_numbers < length ns → Checks ns (Err Fault.TooLong)
  unfit : (n : ℕ) → length ns ≤ max_numbers → Stops start ns n → Checks ns (Err (Fault.Unfit n))
  unreduced : (t : Table) (v : ℕ) → Gets ns t (Answer.not-reduced v) → Checks ns (Err (Fault.NotReduced v))
  ringed : (t : Table) (v : ℕ) → Gets ns t (Answer.ring v) → Checks ns (Err (Fault.Ring v))
  broken : (t : Table) (k s : ℕ) → Gets ns t (Answer.broken k s) → Checks ns (Err (Fault.Broken k s))
  passes : (t : Table) → Gets ns t Answer.passes → Checks ns (Ok (count t))

-- document 01's number and value of each answer
unfoldable pub numbers : Check → ℕ × ℕ
numbers (Ok m) = (0, m)
numbers (Err Fault.TooLong) = (10, 0)
numbers (Err (Fault.Unfit n)) = (12, n)
numbers (Err (Fault.NotReduced v)) = (20, v)
numbers (Err (Fault.Ring v)) = (21, v)
numbers (Err (Fault.Broken k s)) = (22, 0)

-- ---- the program

-- the check's answer for a table's
unfoldable pub told : Table → Answer → Check
told t Answer.passes = Ok (count t)
told t (Answer.not-reduced v) = Err (Fault.NotReduced v)
told t (Answer.ring v) = Err (Fault.Ring v)
told t (Answer.broken k s) = Err (Fault.Broken k s)

-- the check's answer is the table's
abbrev pub Answers : Table → Check → Type 0
Answers t r = (a : Answer) × Checked t a × (r ≡ told t a)

-- the lines first, and then the table
unfoldable pub check_outcome : List ℕ → Check
unfolding read_numbers checks told
check_outcome ns = elim (read_numbers ns) [
  | Lined.over ↦ (Err Fault.TooLong)
  | Lined.unfit n ↦ Err (Fault.Unfit n)
  | Lined.fine d ↦ told (table_of d) (checks (table_of d))
]
