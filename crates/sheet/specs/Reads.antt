-- The reader's outcome as a relation, one case for each row of document 01's table of numbers, and what its slice holds after. `Reads.Exact` and
-- `Reads.Slices` prove that of every sheet and every slice exactly one outcome holds: that of the executable `outcome` and `slice_after`.
use Rattle.std.specs.Prelude.{ℕ, ◌≤◌, ◌<◌, ◌≡◌, true, false, List, [], ◌∷◌, ◌++◌, length, Result, Ok, Err}
use Rattle.theory.specs.Table.{Table}
use Rattle.lines.specs.Basics.{All}
use Rattle.lines.specs.Lines.{Draft, start, is_end, fits, Front, flat}
use Rattle.lines.specs.Ranges.{InRange, lines_of}
use Rattle.sheet.specs.declared.ReadError.{ReadError}
use Rattle.sheet.specs.Sheet.{in_front, newline, print_line, print_from, print, Short, NoLf}
use Rattle.lines.specs.Limits.{max_bytes}
pub mod Exact
pub mod Slices
pub mod Answers

-- 11: the line that is due is missing, or a line is extra, without its LF, or not the key and any numbers in their form
pub data BadLine (d : Draft) (bs : List ℕ) : Type 0 where
  missing : bs ≡ [] → is_end d.due ≡ false → BadLine d bs
  extra : (b : ℕ) (more : List ℕ) → bs ≡ b ∷ more → is_end d.due ≡ true → BadLine d bs
  no_lf : (b : ℕ) (more : List ℕ) → bs ≡ b ∷ more → NoLf bs → BadLine d bs
  no_form : (l rest : List ℕ) → bs ≡ l ++ (newline ∷ rest) → NoLf l → ((xs : List ℕ) → Short xs → l ≡ print_line d.due xs → ⊥) → BadLine d bs

-- 12: a line is due and has its form, and its numbers do not fit
pub data UnfitLine (d : Draft) (bs : List ℕ) : Type 0 where
  no_fit : (xs rest : List ℕ) → bs ≡ print_line d.due xs ++ (newline ∷ rest) → is_end d.due ≡ false → Short xs → fits d xs ≡ false → UnfitLine d bs

-- after n lines in order comes one that is so
pub record Stops (P : Draft → List ℕ → Type 0) (d : Draft) (bs : List ℕ) (n : ℕ) : Type 0 where
  pub before : List (List ℕ)
  pub draft : Draft
  pub rest : List ℕ
  pub in_order : Front d before draft
  pub in_form : All Short before
  pub count : length before ≡ n
  pub bytes : bs ≡ print_from d before ++ rest
  pub refused : P draft rest

-- the bytes are the sheet of the table
pub record SheetOf (bs : List ℕ) (t : Table) : Type 0 where
  pub in_range : InRange t
  pub printed : bs ≡ print (flat (lines_of t))
  pub not_over : length bs ≤ max_bytes

-- of a sheet and a slice's length the answer and the value
pub data Reads (bs : List ℕ) (room : ℕ) : ℕ × ℕ → Type 0 where
  over : max_bytes < length bs → Reads bs room (10, 0)
  bad : (n : ℕ) → length bs ≤ max_bytes → Stops BadLine start bs n → Reads bs room (11, n)
  unfit : (n : ℕ) → length bs ≤ max_bytes → Stops UnfitLine start bs n → Reads bs room (12, n)
  short : (t : Table) → SheetOf bs t → room < length (flat (lines_of t)) → Reads bs room (13, length (flat (lines_of t)))
  good : (t : Table) → SheetOf bs t → length (flat (lines_of t)) ≤ room → Reads bs room (0, length (flat (lines_of t)))

-- of a sheet and a slice the answer and the value, and what the slice holds after: a refusal changes nothing in it, and else the table's numbers
-- stand at its front and the rest is as it was
pub data ReadsInto (bs before : List ℕ) : ℕ × ℕ → List ℕ → Type 0 where
  refused : (a v : ℕ) → Reads bs (length before) (a, v) → (a ≡ 0 → ⊥) → ReadsInto bs before (a, v) before
  filled : (t : Table) → SheetOf bs t → length (flat (lines_of t)) ≤ length before →
      ReadsInto bs before (0, length (flat (lines_of t))) (in_front (flat (lines_of t)) before)

-- document 01's number and value of each answer
unfoldable pub answer_of : Result ℕ ReadError → ℕ × ℕ
answer_of (Ok count) = (0, count)
answer_of (Err ReadError.TooLong) = (10, 0)
answer_of (Err (ReadError.Form line)) = (11, line)
answer_of (Err (ReadError.Range line)) = (12, line)
answer_of (Err (ReadError.Short needed)) = (13, needed)
