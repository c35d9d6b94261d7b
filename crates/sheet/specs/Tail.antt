-- The line tail=.. of the judging program: its text, the numbers that it says, and what is told of it and left in a slice.
use Rattle.std.specs.Prelude.{ℕ, ◌≤◌, ◌<◌, ◌≡◌, true, false, List, [], ◌∷◌, ◌++◌, length, leb, Result, Ok, Err}
use Rattle.std.proofs.Math.Option.{Option, none, some}
use Rattle.lines.specs.Lines.Fits.{all}
use Rattle.sheet.specs.Sheet.{newline, equals, print_numbers, Short, in_front}
use Rattle.sheet.specs.Text.{max_word, Value, bad, has, keyed}
pub use Rattle.sheet.specs.Text.{Words}
use Rattle.sheet.specs.declared.TailError.{TailError}
pub mod Exact
pub mod Telling
pub mod Examples

-- ---- the line

-- `tail`, in ASCII
abbrev pub tail_key : List ℕ
tail_key = 116 ∷ 97 ∷ 105 ∷ 108 ∷ []

-- the line tail=.., without its LF
abbrev pub tail_text : List ℕ → List ℕ
tail_text xs = tail_key ++ (equals ∷ print_numbers xs)

-- the line tail=.. with its LF
abbrev pub tail_line : List ℕ → List ℕ
tail_line xs = tail_text xs ++ (newline ∷ [])

-- ---- what is told of it

-- of a line and a slice what is told, and what the slice holds after: the tokens at its front, and in every other case what it held
pub data ReadsTail (line before : List ℕ) : Result ℕ TailError → List ℕ → Type 0 where
  tokens : (xs : List ℕ) → line ≡ tail_line xs → Words xs → length xs ≤ length before →
      ReadsTail line before (Ok (length xs)) (in_front xs before)
  many : (xs : List ℕ) → line ≡ tail_line xs → Words xs → length before < length xs →
      ReadsTail line before (Err (TailError.Many (length xs))) before
  range : (xs : List ℕ) → line ≡ tail_line xs → Short xs → (Words xs → ⊥) →
      ReadsTail line before (Err TailError.Range) before
  form : ((xs : List ℕ) → Short xs → line ≡ tail_line xs → ⊥) → ReadsTail line before (Err TailError.Form) before

-- ---- the same as a program

-- the numbers of a value that nothing comes after
unfoldable pub alone : Value → Option (List ℕ)
alone bad = none
alone (has xs []) = some xs
alone (has xs (b ∷ more)) = none

-- the numbers of a line tail=.. that an LF ends and that nothing comes after
unfoldable pub tail_of : List ℕ → Option (List ℕ)
unfolding alone keyed
tail_of bs = alone (keyed tail_key bs)

-- what is told of such numbers before a slice is looked at
unfoldable pub told_of : Option (List ℕ) → Result ℕ TailError
unfolding all
told_of none = Err TailError.Form
told_of (some xs) = elim (all (λ x. leb x max_word) xs) [ true ↦ Ok (length xs) | false ↦ Err TailError.Range ]

-- what is told of them, and what a slice holds after
unfoldable pub tail_into : Option (List ℕ) → List ℕ → Result ℕ TailError × List ℕ
unfolding all
tail_into none before = (Err TailError.Form, before)
tail_into (some xs) before = elim (all (λ x. leb x max_word) xs) [
  | true ↦ elim (leb (length xs) (length before)) [
    | true ↦ (Ok (length xs), in_front xs before)
    | false ↦ (Err (TailError.Many (length xs)), before)
  ]
  | false ↦ (Err TailError.Range, before)
]
