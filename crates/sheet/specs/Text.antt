-- What the text of one line says: a number, a key, the numbers of a value up to its LF.
use Rattle.std.specs.Prelude.{ℕ, suc, ◌+◌, ◌*◌, ◌-◌, ◌≤◌, ◌<◌, ◌≡◌, Bool, true, false, List, [], ◌∷◌, ◌++◌}
use Rattle.std.specs.Prelude.{length, drop, eqb, leb, Option as Found, MatchOption, Result, Ok, Err}
use Rattle.std.proofs.Math.Option.{Option, none, some}
use Rattle.lines.specs.Basics.{All}
use Rattle.lines.specs.Lines.{Due, key, is_end, nothing, short, whole}
use Rattle.sheet.specs.Sheet.{newline, equals, digit0, max_digits, is_digit, value_from, numeral, words}
use Rattle.sheet.specs.Sheet.{each_numeral, numerals, line, due_line, cut_line, in_front}
use Rattle.sheet.specs.declared.text.LineError.{LineError}
use Rattle.sheet.specs.declared.ReadError.{ReadError}
use denote.Ref.{Bor}
pub mod Digits
pub mod Values
pub mod Keys
pub mod Tallies
pub mod Rooms
pub mod Readings
pub mod Keyed
pub mod DueLines
pub mod Rests

-- the largest 16-bit number
abbrev pub max_word : ℕ
max_word = 65535

-- ---- one number

-- the digits that bytes begin with
unfoldable pub digits_of : List ℕ → List ℕ
digits_of [] = []
digits_of (c ∷ cs) = elim (is_digit c) [ true ↦ c ∷ digits_of cs | false ↦ [] ]

-- the digits are counted, up to one more than a number has; where they are no more than that, the value is what they say
pub data Counted (ds : List ℕ) (count value : ℕ) : Type 0 where
  few : count ≤ max_digits → count ≡ length ds → value ≡ value_from 0 ds → Counted ds count value
  many : count ≡ suc max_digits → max_digits < length ds → Counted ds count value

-- the number that bytes begin with and what comes after it; or they begin with none
abbrev pub NumberOf : List ℕ → Found (ℕ × Bor (List ℕ)) → Type 0
NumberOf s o =
    MatchOption o (numeral (digits_of s) ≡ none)
    (λ p. (numeral (digits_of s) ≡ some p.0) × (p.1.now ≡ drop (length (digits_of s)) s))

-- ---- a value

-- the numbers of a line, and what comes after its LF; or no line in its form
pub data Value : Type 0 where
  bad : Value
  has : List ℕ → List ℕ → Value

-- the numbers, if there are any in their form, before what comes after
unfoldable pub ended : Option (List ℕ) → List ℕ → Value
ended none rest = bad
ended (some ns) rest = has ns rest

-- the value that bytes begin with, up to the LF
unfoldable pub value_of : List ℕ → Value
unfolding cut_line numerals ended
value_of bs = elim (cut_line bs) [ nothing ↦ bad | short ↦ bad | whole l rest ↦ ended (numerals l) rest ]

-- the same with at least one number: nothing between spaces is no number
unfoldable pub words_of : List ℕ → Value
unfolding cut_line words each_numeral ended
words_of bs = elim (cut_line bs) [ nothing ↦ bad | short ↦ bad | whole l rest ↦ ended (each_numeral (words l)) rest ]

-- the line that bytes begin with, if it has the key
unfoldable pub keyed : List ℕ → List ℕ → Value
unfolding cut_line line ended
keyed k bs = elim (cut_line bs) [ nothing ↦ bad | short ↦ bad | whole l rest ↦ ended (line k l) rest ]

-- the line that bytes begin with, if it is the one that is due
unfoldable pub line_of : Due → List ℕ → Value
unfolding cut_line due_line ended
line_of w bs = elim (cut_line bs) [ nothing ↦ bad | short ↦ bad | whole l rest ↦ ended (due_line w l) rest ]

-- numbers put before those of a value
unfoldable pub prefixed : List ℕ → Value → Value
prefixed acc bad = bad
prefixed acc (has ns rest) = has (acc ++ ns) rest

-- the number that bytes begin with, put before the others: none after the LF, and else those of the bytes after it
abbrev pub with_first : ℕ → Bool → List ℕ → Value
with_first n true rest = has (n ∷ []) rest
with_first n false rest = prefixed (n ∷ []) (words_of rest)

-- the number that bytes begin with, whether it is the last, and what comes after the byte behind it;
-- or no value in its form
abbrev pub WordOf : List ℕ → Found (ℕ × Bool × Bor (List ℕ)) → Type 0
WordOf s o =
    MatchOption o (words_of s ≡ bad)
    (λ p. (length p.2.now + 2 ≤ length s) × (words_of s ≡ with_first p.0 p.1 p.2.now))

-- the numbers up to the LF where each byte that is no digit ends a number, after digits that say v
unfoldable pub rest_from : ℕ → List ℕ → Value
unfolding prefixed
rest_from v [] = bad
rest_from v (c ∷ cs) = elim (leb digit0 c) [
  | true ↦ rest_from (10 * v + (c - digit0)) cs
  | false ↦ elim (eqb c newline) [ true ↦ has (v ∷ []) cs | false ↦ prefixed (v ∷ []) (rest_from 0 cs) ]
]

-- the key of the line that is due and the equals sign; or none is due
abbrev pub OpeningOf : Due → Found (Bor (List ℕ)) → Type 0
OpeningOf w o = MatchOption o (is_end w ≡ true) (λ k. (is_end w ≡ false) × (k.now ≡ key w ++ (equals ∷ [])))

-- the value of the line that is due, behind a key of two bytes at least, and all that comes after it;
-- or bytes do not begin with such a line
abbrev pub Opened : Due → List ℕ → Found (Bor (List ℕ)) → Type 0
Opened w s o = MatchOption o (line_of w s ≡ bad) (λ v. (length v.now + 2 ≤ length s) × (line_of w s ≡ value_of v.now))

-- ---- the numbers of a value, kept in an array

-- numbers of 16 bits
abbrev pub Words : List ℕ → Type 0
Words xs = All (λ x. x ≤ max_word) xs

-- n numbers of 16 bits, which take two bytes each, behind k bytes at least, stand at the front of an array
pub record Written (v : Value) (k : ℕ) (s before : List ℕ) (n : ℕ) (rest after : List ℕ) : Type 0 where
  pub half : k + 2 * n + length rest ≤ length s
  pub numbers : List ℕ
  pub value : v ≡ has numbers rest
  pub counted : n ≡ length numbers
  pub placed : after ≡ in_front numbers before

-- a number is above 16 bits
pub record Wide (v : Value) : Type 0 where
  pub numbers : List ℕ
  pub rest : List ℕ
  pub value : v ≡ has numbers rest
  pub wide : Words numbers → ⊥

-- why the line of a value is refused
abbrev pub Refused : Value → LineError → Type 0
Refused v LineError.Form = v ≡ bad
Refused v LineError.Range = Wide v

-- what is told of a value behind k bytes at least, and what became of the array
abbrev pub Told : Value → ℕ → List ℕ → List ℕ → Result (ℕ × Bor (List ℕ)) LineError → List ℕ → Type 0
Told v k s before (Ok (n, rest)) after = Written v k s before n rest.now after
Told v k s before (Err e) after = Refused v e

-- the sheet's refusal, of a line's and its number
abbrev pub refused_at : LineError → ℕ → ReadError
refused_at LineError.Form line = ReadError.Form line
refused_at LineError.Range line = ReadError.Range line
