-- The judging program: from the bytes of its input to answer, value and steps, as a relation and as a program, for any limits.
-- `proofs/Box/Exact.antt` proves that of every input exactly one outcome holds: that of the program.
use Rattle.std.specs.Prelude.{ℕ, ◌≤◌, ◌<◌, ◌≡◌, true, false, ◌⊎◌, List, [], ◌∷◌, ◌++◌, length, eqb, leb}
use Rattle.std.proofs.Math.Option.{none, some}
use Rattle.theory.specs.Table.{Table}
use Rattle.lines.specs.Lines.{flat, lines}
use Rattle.lines.specs.Lines.Fits.{all}
use Rattle.lines.specs.Ranges.{lines_of}
use Rattle.sheet.specs.Sheet.{newline, Short, NoLf, Read, read_sheet}
use Rattle.sheet.specs.Reads.{Reads, SheetOf}
use Rattle.sheet.specs.Text.{max_word}
use Rattle.sheet.specs.Tail.{Words, tail_line, tail_of}
use Rattle.judge.specs.Judge.{refusal, JudgesUpTo, outcome_up_to}
use Rattle.judge.specs.declared.Judgement.{Judgement}
pub mod Last
pub mod Sizes
pub mod Answers
pub mod Worth
pub mod Most

-- ---- the limits

-- what a judging program takes: bytes of an input, numbers of a table, tokens of a tail, words of room
pub record Box : Type 0 where
  pub bytes : ℕ
  pub numbers : ℕ
  pub tokens : ℕ
  pub words : ℕ

-- document 01's program
unfoldable pub small_box : Box
small_box = record { bytes = 16000; numbers = 8000; tokens = 400; words = 8192 }

-- the program with the library's own limits of sheet and tail: an input has room for the longest sheet and for the line of the longest tail; with
-- 31 states there is room for 4,096 tokens, with 128 states for 1,022
unfoldable pub large_box : Box
large_box = record { bytes = 90000; numbers = 60000; tokens = 4096; words = 1048576 }

-- ---- the input

-- nothing, or bytes that end with an LF
abbrev pub Ended : List ℕ → Type 0
Ended bs = (bs ≡ []) ⊎ ((front : List ℕ) × (bs ≡ front ++ (newline ∷ [])))

-- no LF, or one and that at the end
abbrev pub OneLine : List ℕ → Type 0
OneLine bs = NoLf bs ⊎ ((l : List ℕ) × NoLf l × (bs ≡ l ++ (newline ∷ [])))

-- the last line with its LF, if one ends it, and all before it; only of no bytes is the last line empty
pub record LastLine (bs sheet last : List ℕ) : Type 0 where
  pub joined : bs ≡ sheet ++ last
  pub ended : Ended sheet
  pub one : OneLine last
  pub filled : last ≡ [] → sheet ≡ []

-- the input, which is not too long, is the sheet and the last line
pub record Input (b : Box) (bs sheet last : List ℕ) : Type 0 where
  pub not_over : length bs ≤ b.bytes
  pub its_lines : LastLine bs sheet last

-- the numbers that the reader writes for the sheet of a table
abbrev pub numbers_of : Table → List ℕ
numbers_of t = flat (lines_of t)

-- the input is the sheet of the table, whose numbers have room, and the last line
pub record Given (b : Box) (bs last : List ℕ) (t : Table) : Type 0 where
  pub sheet : List ℕ
  pub input : Input b bs sheet last
  pub its_sheet : SheetOf sheet t
  pub its_room : length (numbers_of t) ≤ b.numbers

-- ---- the outcome

-- of an input answer, value and steps; the last line's number is the count of the sheet's lines
pub data Boxes (b : Box) (bs : List ℕ) : Judgement → Type 0 where
  over : b.bytes < length bs → Boxes b bs (refusal 10 0)
  unread : (sheet last : List ℕ) (a v : ℕ) → Input b bs sheet last → Reads sheet b.numbers (a, v) → (a ≡ 0 → ⊥) → Boxes b bs (refusal a v)
  bad_tail : (last : List ℕ) (t : Table) → Given b bs last t → ((xs : List ℕ) → Short xs → last ≡ tail_line xs → ⊥) →
      Boxes b bs (refusal 11 (length (lines_of t)))
  unfit_tail : (last xs : List ℕ) (t : Table) → Given b bs last t → last ≡ tail_line xs → Short xs → (Words xs → ⊥) →
      Boxes b bs (refusal 12 (length (lines_of t)))
  judged : (last xs : List ℕ) (t : Table) (j : Judgement) → Given b bs last t → last ≡ tail_line xs → Words xs →
      JudgesUpTo b.tokens (numbers_of t) xs b.words j → Boxes b bs j

-- ---- the program

-- one byte more before lines that are cut before the last one: it stands before the last line if it ends a line or other lines begin with it
unfoldable pub put_byte : ℕ → List ℕ → List ℕ → List ℕ × List ℕ
put_byte b [] [] = ([], b ∷ [])
put_byte b [] (c ∷ l) = elim (eqb b newline) [ true ↦ (b ∷ [], c ∷ l) | false ↦ ([], b ∷ (c ∷ l)) ]
put_byte b (c ∷ s) l = (b ∷ (c ∷ s), l)

-- all before the last line, and the last line
unfoldable pub cut_last : List ℕ → List ℕ × List ℕ
unfolding put_byte
cut_last [] = ([], [])
cut_last (b ∷ bs) = let c = cut_last bs in put_byte b c.0 c.1

-- the last line, by the numbers of a table
unfoldable pub box_tail_line : Box → List ℕ → List ℕ → Judgement
unfolding tail_of all lines outcome_up_to
box_tail_line b ns last = elim (tail_of last) [
  | none ↦ refusal 11 (length (lines ns))
  | some xs ↦ elim (all (λ x. leb x max_word) xs) [
    | true ↦ outcome_up_to b.tokens ns xs b.words
    | false ↦ refusal 12 (length (lines ns))
  ]
]

-- the sheet, and then the last line
unfoldable pub box_lines : Box → List ℕ → List ℕ → Judgement
unfolding read_sheet box_tail_line
box_lines b sheet last = elim (read_sheet sheet) [
  | Read.over ↦ refusal 10 0
  | Read.bad n ↦ refusal 11 n
  | Read.unfit n ↦ refusal 12 n
  | Read.good ns d ↦ elim (leb (length ns) b.numbers) [ true ↦ box_tail_line b ns last | false ↦ refusal 13 (length ns) ]
]

-- the whole input
unfoldable pub box_outcome : Box → List ℕ → Judgement
unfolding cut_last box_lines
box_outcome b bs = elim (leb (length bs) b.bytes) [ true ↦ let c = cut_last bs in box_lines b c.0 c.1 | false ↦ refusal 10 0 ]
