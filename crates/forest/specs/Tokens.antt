-- What a token asks and leaves: its reduce phase, then its shift phase.
use Rattle.std.specs.Prelude.{◌≡◌, Bool, List, ℕ, ◌≤◌, ◌<◌}
use Rattle.theory.specs.Table.{Table}
use Rattle.theory.specs.Forest as Of
use Rattle.theory.specs.Forest.{Forest, Phase, shift}
use Rattle.theory.specs.Forest.Joins.{is_none}
use Rattle.theory.specs.Bound.{fresh_phase}
use Rattle.theory.proofs.Bound.Potential.{Inv}
use Rattle.forest.specs.Rows.{Passing, Rows}
use Rattle.forest.specs.Held.{Held, Becomes}
use Rattle.forest.specs.Phases.{most_steps, Enough}

-- The table passes and has m states, these are its look-ups, the token is one of its kinds, the forest is one before a phase, and there are
-- nodes enough.
pub record CanTake (acts go lens lefts : List ℕ) (m a C : ℕ) (t : Table) (F : Forest) : Type 0 where
  pub table : Passing m t
  pub rows : Rows t acts go lens lefts
  pub token : a < t.grammar.terms
  pub before : Inv t (fresh_phase F)
  pub room : Enough C t F

-- the room holds some such forest
pub record SomeTake (w acts go lens lefts : List ℕ) (m a : ℕ) : Type 0 where
  pub C : ℕ
  pub t : Table
  pub F : Forest
  pub held : Held w C F
  pub can : CanTake acts go lens lefts m a C t F

-- The phase took so many steps; the room holds the shift of the forest at its end, and it is told whether that is empty.
pub record Taken (w v : List ℕ) (C : ℕ) (t : Table) (a : ℕ) (F : Forest) (empty : Bool) (steps : ℕ) : Type 0 where
  pub end : Phase
  pub reduces : Of.Reduces t a (fresh_phase F) steps end
  pub becomes : Becomes w v C (shift t a end.forest)
  pub told : empty ≡ is_none (shift t a end.forest)
  pub few : steps ≤ most_steps

-- whatever forest it held, whatever table has those look-ups
abbrev pub Takes : List ℕ → List ℕ → List ℕ → List ℕ → List ℕ → ℕ → ℕ → List ℕ → Bool → ℕ → Type 0
Takes w acts go lens lefts m a v empty steps =
    (C : ℕ) (t : Table) (F : Forest) → Held w C F → CanTake acts go lens lefts m a C t F → Taken w v C t a F empty steps
