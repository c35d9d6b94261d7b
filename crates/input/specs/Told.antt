-- What a judging program does with what it reads from and writes to.
use Rattle.std.specs.Prelude.{ℕ, ◌<◌, ◌≤◌, List, length, Option}
use Rattle.std.specs.Io.KnownBytes.{Consumes, IsAtEnd, Appends}
use Rattle.judge.specs.declared.Judgement.{Judgement}
use Rattle.input.specs.Shown.{three_lines}

-- bytes were read, all that there were or just so many, and the three lines of their judgement were written; what a
-- reader has left and a writer holds is said where it is known
pub record Told (size : ℕ) (input rest before after : Option (List ℕ)) (Says : List ℕ → Judgement → Type 0) :
    Type 0 where
  pub bytes : List ℕ
  pub judgement : Judgement
  pub few : length bytes ≤ size
  pub read : Consumes input rest bytes
  pub all : length bytes < size → IsAtEnd rest
  pub judged : Says bytes judgement
  pub written : Appends before after (three_lines judgement)
