-- The three lines that a judging program prints.
use Rattle.std.specs.Prelude.{ℕ, ◌+◌, ◌≡◌, refl, List, [], ◌∷◌, ◌++◌, length, take, drop}
use Rattle.sheet.specs.Sheet.{newline, digits_within}
use Rattle.sheet.specs.Quoted.{ascii, text}
use Rattle.judge.specs.declared.Judgement.{Judgement}

-- decimal digits of a 64-bit number
abbrev pub max_places : ℕ
max_places = 20

-- a number's line: a key with its `=`, the number in decimal digits with no leading zero, LF
unfoldable pub shown_line : List ℕ → ℕ → List ℕ
unfolding digits_within
shown_line key n = key ++ (digits_within max_places n ++ (newline ∷ []))

-- the answer, its value, the steps, a line each
unfoldable pub three_lines : Judgement → List ℕ
unfolding shown_line ascii
three_lines j = shown_line (ascii "answer=") j.answer ++ (shown_line (ascii "value=") j.value ++ shown_line (ascii "steps=") j.steps)

-- document 01's output for the small box sheet
pub small_lines : three_lines (record { answer = 0; value = 2; steps = 3 }) ≡ text ("answer=0" ∷ "value=2" ∷ "steps=3" ∷ [])
unfolding three_lines text
small_lines = refl

-- bytes with a text put at a place
abbrev pub put_at : List ℕ → ℕ → List ℕ → List ℕ
put_at out at xs = (take at out ++ xs) ++ drop (at + length xs) out

-- a text was put at a place: the place after it, and every byte afterwards
pub record Put (before : List ℕ) (at : ℕ) (xs : List ℕ) (end : ℕ) (after : List ℕ) : Type 0 where
  pub its_end : end ≡ at + length xs
  pub its_bytes : after ≡ put_at before at xs
