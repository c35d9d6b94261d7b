-- What an outcome of the program is worth: demands 2 and 3, from the bytes of its input.
use Rattle.std.specs.Prelude.{ℕ, ◌≡◌, List, ◌++◌}
use Rattle.sheet.specs.Tail.{tail_line}
use Rattle.sheet.specs.Reads.{SheetOf}
use Rattle.judge.specs.Judge.{Ready}
use Rattle.judge.specs.Judge.Demands.{Worth}
use Rattle.judge.specs.declared.Judgement.{Judgement}
use Rattle.input.specs.Box.{Box}

-- The input is the sheet of a table and the line of a tail; the tail has no more tokens than are taken, and there is room for them; and the
-- outcome is worth of them what the judge's is. `worth.told` is demand 2 word for word, `worth.bound` and `worth.nodes` are demand 3.
pub record Worthy (b : Box) (bs : List ℕ) (j : Judgement) : Type 0 where
  pub sheet : List ℕ
  pub tail : List ℕ
  pub numbers : List ℕ
  pub joined : bs ≡ sheet ++ tail_line tail
  pub worth : Worth numbers tail j
  pub its_sheet : SheetOf sheet worth.table
  pub ready : Ready b.tokens tail b.words worth.table
