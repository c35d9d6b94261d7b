-- What is asked before the forest runs: the check has passed, and the tail and the room are in order.
use Rattle.std.specs.Prelude.{ℕ, ◌+◌, ◌*◌, ◌≤◌, ◌≡◌, List, length}
use Rattle.theory.specs.Table.{Table, count}
use Rattle.lines.specs.Limits.{max_terms, max_nonterms, max_tail}
use Rattle.judge.specs.declared.Judgement.{Judgement}
use Rattle.judge.specs.Judge.{words, Good, Ready}
use Rattle.judge.specs.Runs.{Says}

-- The numbers are those of a table with m states that passes, the tail is ready to be judged by it, and it calls for k words of room.
pub record SomeReady (ns tail : List ℕ) (room m k : ℕ) : Type 0 where
  pub t : Table
  pub good : Good ns t
  pub states : m ≡ count t
  pub ready : Ready max_tail tail room t
  pub called_for : k ≡ words m (length tail)

-- so many entries are enough for the look-ups of any table with m states
abbrev pub Roomy : (m acts go : ℕ) → Type 0
Roomy m acts go = (max_terms * m ≤ acts) × ((max_terms + max_nonterms + 1) * m ≤ go)

-- the judgement is that of the table whose numbers they are
abbrev pub Said : List ℕ → List ℕ → Judgement → Type 0
Said ns tail j = (t : Table) → Good ns t → Says t tail j
