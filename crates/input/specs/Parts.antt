-- What the parts of the judging program tell, with slices whose lengths are the limits.
use Rattle.std.specs.Prelude.{ℕ, ◌≡◌, List, length}
use Rattle.sheet.specs.Sheet.{Short}
use Rattle.sheet.specs.Tail.{Words, tail_line}
use Rattle.judge.specs.Judge.{refusal, JudgesUpTo}
use Rattle.judge.specs.declared.Judgement.{Judgement}
use Rattle.input.specs.Box.{Box}

-- the limits that slices set by their lengths
abbrev pub box_of : ℕ → List ℕ → List ℕ → List ℕ → Box
box_of most table tail room = record { bytes = most; numbers = length table; tokens = length tail; words = length room }

-- the last line, which has the number n, by the numbers of a table; the lengths of two slices are the limits of tokens and of words of room
pub data Tailed (n : ℕ) (tail room ns last : List ℕ) : Judgement → Type 0 where
  bad : ((xs : List ℕ) → Short xs → last ≡ tail_line xs → ⊥) → Tailed n tail room ns last (refusal 11 n)
  unfit : (xs : List ℕ) → last ≡ tail_line xs → Short xs → (Words xs → ⊥) → Tailed n tail room ns last (refusal 12 n)
  judged : (xs : List ℕ) (j : Judgement) → last ≡ tail_line xs → Words xs → JudgesUpTo (length tail) ns xs (length room) j → Tailed n tail room ns last j
