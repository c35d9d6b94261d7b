-- Facts that have at most one proof: a type of the program can carry them.
use Rattle.std.specs.Prelude.{ℕ, List, [], ◌∷◌}
use native.Mathlib.Nat.{ℕ_set}
use mathlib.Core.Bool.{Bool-set}
use Rattle.std.specs.Coded.{×_prop, Unit-prop, le_prop}
use Rattle.lines.specs.Ranges.{RisingFrom, Rising}
use Rattle.table.specs.declared.Sizes.{Sizes}
use Rattle.table.specs.Aheads.{AllTold}
use Rattle.table.specs.Items.{StatesHeld}
use Rattle.table.specs.Places.{Held}
use Rattle.table.specs.States.{Within}

-- numbers rise in one way
pub rising_from-prop : (x : ℕ) (ys : List ℕ) → IsProp (RisingFrom x ys)
rising_from-prop x [] = Unit-prop
rising_from-prop x (y ∷ ys) = ×_prop le_prop (rising_from-prop y ys)

pub rising-prop : (xs : List ℕ) → IsProp (Rising xs)
rising-prop [] = Unit-prop
rising-prop (x ∷ xs) = rising_from-prop x xs

-- the rules of a table are held
pub held-prop : (ns places : List ℕ) (z : Sizes) → IsProp (Held ns places z)
held-prop ns places z = Prim.hlevel (rising-prop, le_prop, ℕ_set)

-- the states of a table are held
pub states_held-prop : (ns places : List ℕ) (z : Sizes) → IsProp (StatesHeld ns places z)
states_held-prop ns places z = Prim.hlevel (rising-prop, le_prop, ℕ_set)

-- the look-ahead sets of a table's items are noted
pub all_told-prop : (ns places : List ℕ) (z : Sizes) (sets : List ℕ) → IsProp (AllTold ns places z sets)
all_told-prop ns places z sets = Prim.hlevel (le_prop, ℕ_set, Bool-set)

-- the numbers and the sizes are within the limits
pub within-prop : (ns : List ℕ) (z : Sizes) → IsProp (Within ns z)
within-prop ns z = Prim.hlevel (le_prop)
