-- The run of the forest over a tail: what it asks of the room and the look-ups, and the judgement that it tells.
use Rattle.std.specs.Prelude.{ℕ, ◌+◌, ◌*◌, ◌-◌, ◌≤◌, ◌≡◌, Bool, true, false, List, length, drop}
use Rattle.theory.specs.Grammar.{Tokens}
use Rattle.theory.specs.Table.{Table}
use Rattle.theory.specs.Forest.{Forest, Takes, Judged}
use Rattle.theory.specs.Bound.{fresh_phase}
use Rattle.theory.proofs.Bound.Potential.{Inv}
use Rattle.lines.specs.Limits.{max_tail}
use Rattle.forest.specs.Rows.{Passing, Rows}
use Rattle.forest.specs.Held.{Held}
use Rattle.forest.specs.Phases.{most_steps}
use Rattle.forest.specs.Enough.{nodes, Ahead}
use Rattle.judge.specs.declared.Judgement.{Judgement}
use Rattle.judge.specs.Judge.{words}

-- the judgement of a tail by a table, with document 01's numbers
pub data Says (t : Table) (tail : List ℕ) : Judgement → Type 0 where
  piece : (k : ℕ) → Judged t tail true (length tail) k → Says t tail (record { answer = 0; value = length tail; steps = k })
  stop : (i k : ℕ) → Judged t tail false i k → Says t tail (record { answer = 1; value = i; steps = k })

-- The table passes and has m states, these are its look-ups, the tail is made of its tokens and is not too long, and the room has just the words
-- that the tail calls for.
pub record CanRun (w acts go lens lefts : List ℕ) (m : ℕ) (tail : List ℕ) (t : Table) : Type 0 where
  pub table : Passing m t
  pub rows : Rows t acts go lens lefts
  pub tokens : Tokens t.grammar tail
  pub few : length tail ≤ max_tail
  pub room : length w ≡ words m (length tail)

-- for some table
pub record SomeRun (w acts go lens lefts : List ℕ) (m : ℕ) (tail : List ℕ) : Type 0 where
  pub t : Table
  pub can : CanRun w acts go lens lefts m tail t

-- whatever table has those look-ups
abbrev pub Runs : List ℕ → List ℕ → List ℕ → List ℕ → List ℕ → ℕ → List ℕ → Judgement → Type 0
Runs w acts go lens lefts m tail j = (t : Table) → CanRun w acts go lens lefts m tail t → Says t tail j

-- The first i tokens are taken, in so many steps: the room holds the forest that they left, and what it gives for the rest of the tail is what is
-- asked of the whole.
pub record Along (C : ℕ) (t : Table) (w tail : List ℕ) (i steps : ℕ) : Type 0 where
  pub F : Forest
  pub held : Held w C F
  pub before : Inv t (fresh_phase F)
  pub ahead : Ahead C t F (length tail - i)
  pub rest : (v : Bool) (k j : ℕ) → Takes t F (drop i tail) v k j → Judged t tail v (i + k) (steps + j)
  pub few : steps ≤ i * most_steps

-- the first token is taken
pub record CanGoOn (w acts go lens lefts : List ℕ) (m : ℕ) (tail : List ℕ) (t : Table) : Type 0 where
  pub run : CanRun w acts go lens lefts m tail t
  pub some : 1 ≤ length tail
  pub first : Along (nodes m (length tail)) t w tail 1 0

-- for some table
pub record SomeGoOn (w acts go lens lefts : List ℕ) (m : ℕ) (tail : List ℕ) : Type 0 where
  pub t : Table
  pub can : CanGoOn w acts go lens lefts m tail t

-- whatever table has those look-ups
abbrev pub GoesOn : List ℕ → List ℕ → List ℕ → List ℕ → List ℕ → ℕ → List ℕ → Judgement → Type 0
GoesOn w acts go lens lefts m tail j = (t : Table) → CanGoOn w acts go lens lefts m tail t → Says t tail j
