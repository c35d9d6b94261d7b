-- What a search for the lowest number with a property found.
use Rattle.std.specs.Prelude.{ℕ, Option, None, Some}
use Rattle.table.specs.Checks.{Lowest}

-- the lowest number with the property; or none, and then the statement holds
abbrev pub Finds : (ℕ → Type 0) → Type 0 → Option ℕ → Type 0
Finds P none (Some v) = Lowest P v
Finds P none None = none
