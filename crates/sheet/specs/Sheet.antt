-- The reader's specification: from the bytes of a sheet to a table's numbers, line by line, and back.
-- A line is read in two steps: its key and the form of its numbers (else 11), then the automaton of `Lines` (else 12).
use Rattle.std.specs.Prelude.{ℕ, zero, suc, ◌+◌, ◌*◌, ◌-◌, ◌/◌, ◌%◌, ◌<◌, ◌≡◌, Bool, true, false, ◌&&◌, not, List, [], ◌∷◌, ◌++◌, map, length, drop, eqb, ltb, leb}
use Rattle.std.proofs.Math.Option.{Option, none, some}
use Rattle.lines.specs.Basics.{All}
use Rattle.lines.specs.Limits.{max_bytes}
use Rattle.lines.specs.Lines.{Due, key, is_end, Draft, start, next, accept, Cut, nothing, short, whole, lines}
use Rattle.lines.specs.Lines.Fits.{within, all}
pub mod Numerals
pub mod Forms
pub mod Exact
pub mod Steps

-- ---- the bytes that have a meaning

-- LF
abbrev pub newline : ℕ
newline = 10

abbrev pub space : ℕ
space = 32

abbrev pub equals : ℕ
equals = 61

-- the digit 0; the others follow
abbrev pub digit0 : ℕ
digit0 = 48

-- the digit 9
abbrev pub digit9 : ℕ
digit9 = 57

-- digits of a number
abbrev pub max_digits : ℕ
max_digits = 5

-- ---- one number

-- a decimal digit
abbrev pub is_digit : ℕ → Bool
is_digit c = within digit0 digit9 c

-- no leading zero, except 0 itself
unfoldable pub plain : List ℕ → Bool
plain [] = false
plain (c ∷ []) = true
plain (c ∷ (d ∷ ds)) = not (eqb c digit0)

-- the form of a number: 1 to 5 decimal digits, no leading zero except 0 itself
unfoldable pub is_numeral : List ℕ → Bool
unfolding all plain
is_numeral ds = within 1 max_digits (length ds) && all is_digit ds && plain ds

-- what digits say, after others that say v
unfoldable pub value_from : ℕ → List ℕ → ℕ
value_from v [] = v
value_from v (c ∷ cs) = value_from (10 * v + (c - digit0)) cs

-- one number, if it has the form
unfoldable pub numeral : List ℕ → Option ℕ
unfolding is_numeral value_from
numeral ds = elim (is_numeral ds) [ true ↦ some (value_from 0 ds) | false ↦ none ]

-- ---- the numbers of a value: one space between; nothing is no numbers

-- a byte put before the first word
unfoldable pub before : ℕ → List (List ℕ) → List (List ℕ)
before c [] = (c ∷ []) ∷ []
before c (w ∷ ws) = (c ∷ w) ∷ ws

-- the words between single spaces
unfoldable pub words : List ℕ → List (List ℕ)
unfolding before
words [] = [] ∷ []
words (c ∷ cs) = elim (eqb c space) [ true ↦ [] ∷ words cs | false ↦ before c (words cs) ]

-- the numbers of words, if all have the form
unfoldable pub each_numeral : List (List ℕ) → Option (List ℕ)
unfolding numeral
each_numeral [] = some []
each_numeral (w ∷ ws) = elim (numeral w) [
  | none ↦ none
  | some n ↦ elim (each_numeral ws) [ none ↦ none | some ns ↦ some (n ∷ ns) ]
]

-- the numbers of a value
unfoldable pub numerals : List ℕ → Option (List ℕ)
unfolding words each_numeral
numerals [] = some []
numerals (c ∷ cs) = each_numeral (words (c ∷ cs))

-- ---- one line, without its LF

-- what comes after a front
unfoldable pub after : List ℕ → List ℕ → Option (List ℕ)
after [] bs = some bs
after (k ∷ ks) [] = none
after (k ∷ ks) (b ∷ bs) = elim (eqb k b) [ true ↦ after ks bs | false ↦ none ]

-- the numbers of a line key=value, if it has the key and the form
unfoldable pub line : List ℕ → List ℕ → Option (List ℕ)
unfolding after numerals
line k bs = elim (after (k ++ (equals ∷ [])) bs) [ none ↦ none | some v ↦ numerals v ]

-- the numbers of the line that is due, if it has the key and the form; where none is due every line is extra
unfoldable pub due_line : Due → List ℕ → Option (List ℕ)
unfolding is_end key line
due_line w bs = elim (is_end w) [ true ↦ none | false ↦ line (key w) bs ]

-- ---- the sheet

-- the first line of bytes, ended by an LF
unfoldable pub cut_line : List ℕ → Cut
cut_line [] = nothing
cut_line (b ∷ bs) = elim (eqb b newline) [
  | true ↦ whole [] bs
  | false ↦ elim (cut_line bs) [ nothing ↦ short | short ↦ short | whole l rest ↦ whole (b ∷ l) rest ]
]

-- too many bytes (10); a line that is missing, extra, without its LF, or of a wrong key or form (11);
-- a line whose count or range is wrong (12); the numbers of the table and its draft
pub data Read : Type 0 where
  over : Read
  bad unfit : ℕ → Read
  good : List ℕ → Draft → Read

-- line after line; `at` is the due line's number, `ns` the numbers so far, `k` is above the count of lines to come
unfoldable pub sheet_from : ℕ → ℕ → List ℕ → Draft → List ℕ → Read
unfolding is_end accept cut_line due_line
sheet_from zero at ns d bs = bad at
sheet_from (suc k) at ns d bs = elim (cut_line bs) [
  | nothing ↦ elim (is_end d.due) [ true ↦ good ns d | false ↦ bad at ]
  | short ↦ bad at
  | whole l rest ↦ elim (due_line d.due l) [
    | none ↦ bad at
    | some xs ↦ elim (accept d xs) [ none ↦ unfit at | some e ↦ sheet_from k (suc at) (ns ++ (length xs ∷ xs)) e rest ]
  ]
]

-- the lines of all bytes that are left
abbrev pub sheet_at : ℕ → List ℕ → Draft → List ℕ → Read
sheet_at at ns d bs = sheet_from (suc (length bs)) at ns d bs

-- a sheet
unfoldable pub read_sheet : List ℕ → Read
unfolding sheet_from
read_sheet bs = elim (leb (length bs) max_bytes) [ true ↦ sheet_at 0 [] start bs | false ↦ over ]

-- the reader's answer and value, for a slice of that many numbers
unfoldable pub outcome : List ℕ → ℕ → ℕ × ℕ
unfolding read_sheet
outcome bs room = elim (read_sheet bs) [
  | over ↦ (10, 0)
  | bad at ↦ (11, at)
  | unfit at ↦ (12, at)
  | good ns d ↦ elim (leb (length ns) room) [ true ↦ (0, length ns) | false ↦ (13, length ns) ]
]

-- the numbers at the front; the rest stays
abbrev pub in_front : List ℕ → List ℕ → List ℕ
in_front ns before = ns ++ drop (length ns) before

-- what a slice holds after: the numbers at its front if there is room for them, and else what it held
unfoldable pub slice_after : List ℕ → List ℕ → List ℕ
unfolding read_sheet
slice_after bs before = elim (read_sheet bs) [
  | over ↦ before
  | bad at ↦ before
  | unfit at ↦ before
  | good ns d ↦ elim (leb (length ns) (length before)) [ true ↦ in_front ns before | false ↦ before ]
]

-- ---- the sheet of a table's numbers

-- the digits of a number, at most k
unfoldable pub digits_within : ℕ → ℕ → List ℕ
digits_within zero n = []
digits_within (suc k) n = elim (ltb n 10) [ true ↦ (digit0 + n) ∷ [] | false ↦ digits_within k (n / 10) ++ ((digit0 + n % 10) ∷ []) ]

-- the digits of a number
unfoldable pub digits : ℕ → List ℕ
unfolding digits_within
digits n = digits_within max_digits n

-- words with one space between
unfoldable pub unwords : List (List ℕ) → List ℕ
unwords [] = []
unwords (w ∷ []) = w
unwords (w ∷ (v ∷ ws)) = w ++ (space ∷ unwords (v ∷ ws))

-- the value of numbers
unfoldable pub print_numbers : List ℕ → List ℕ
unfolding digits unwords
print_numbers xs = unwords (map digits xs)

-- a line key=value, without its LF
unfoldable pub print_line : Due → List ℕ → List ℕ
unfolding key print_numbers
print_line w xs = key w ++ (equals ∷ print_numbers xs)

-- lines, from a draft on, each with its LF; the keys are those that are due
unfoldable pub print_from : Draft → List (List ℕ) → List ℕ
unfolding print_line next
print_from d [] = []
print_from d (l ∷ ls) = print_line d.due l ++ (newline ∷ print_from (next d l) ls)

-- the sheet of a table's numbers
unfoldable pub print : List ℕ → List ℕ
unfolding print_from lines
print ns = print_from start (lines ns)

-- ---- what lines are made of

-- numbers that five digits can say
abbrev pub Short : List ℕ → Type 0
Short ns = All (λ n. n < 100000) ns

-- no LF
abbrev pub NoLf : List ℕ → Type 0
NoLf bs = All (λ b. b ≡ newline → ⊥) bs
