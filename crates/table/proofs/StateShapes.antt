-- Laws of shapes among the states: which test a state line, an item line and a go line meets there, and what comes next.
use Prim.Native.Nat.{ℕ, zero, suc, ◌-◌, ◌≤◌}
use native.Mathlib.Omega.{arith}
use mathlib.Core.Path.{◌≡◌, refl}
use mathlib.Core.Bool.{false}
use mathlib.Core.List.{List}
use lib.ListN.{take, set}
use lib.Dec.{leb}
use Rattle.lines.specs.Basics.{impossible}
use Rattle.lines.specs.Lines.{is_end}
use Rattle.lines.specs.Lines.Fits.{at, fits_state, fits_item, fits_go}
use Rattle.lines.specs.Shape.{fits_shape, fits_due, next_shape, settled_shape, lengths_with}
use Rattle.lines.specs.Shape.Shaped.{due_of}
use Rattle.lines.specs.declared.shape.Due.TheVariants.{Item, End}
use Rattle.table.specs.declared.Sizes.{Sizes}
use Rattle.table.specs.Lined.{rules_with, states_with}
use Rattle.table.specs.States.{shape_in, in_state}

-- ---- items and go lines

module _ (z : Sizes) (j i l a : ℕ) (ls xs : List ℕ) where
  -- where an item is due
  pub item_fits : fits_shape (in_state z j (suc i) l a) ls xs ≡ fits_item z.terms (take z.rules ls) xs
  unfolding fits_due in_state
  item_fits = refl

  -- it leaves the lengths of the rules
  pub item_lengths : lengths_with (in_state z j (suc i) l a) ls xs ≡ ls
  unfolding lengths_with in_state
  item_lengths = refl

  -- where a go line is due
  pub go_fits : fits_shape (in_state z j 0 (suc l) a) ls xs ≡ fits_go z.terms z.nonterms z.states (leb a) xs
  unfolding fits_due in_state
  go_fits = refl

  -- it leaves the lengths of the rules
  pub go_lengths : lengths_with (in_state z j 0 (suc l) a) ls xs ≡ ls
  unfolding lengths_with in_state
  go_lengths = refl

-- after an item
pub item_next : (z : Sizes) (j i l a : ℕ) (xs : List ℕ) → next_shape (in_state z j (suc i) l a) xs ≡ in_state z j i l a
unfolding next_shape settled_shape in_state
item_next z j zero zero a xs = refl
item_next z j zero (suc l) a xs = refl
item_next z j (suc i) l a xs = refl

-- after a go line
pub go_next : (z : Sizes) (j l a : ℕ) (xs : List ℕ) → next_shape (in_state z j 0 (suc l) a) xs ≡ in_state z j 0 l (suc (at xs 0))
unfolding next_shape settled_shape in_state
go_next z j zero a xs = refl
go_next z j (suc l) a xs = refl

module _ (z : Sizes) (j i l a : ℕ) (places : List ℕ) (p : ℕ) where
  -- an item leaves the places of the rules and the states
  pub item_rules : rules_with (in_state z j (suc i) l a) places p ≡ places
  unfolding rules_with in_state
  item_rules = refl

  pub item_states : states_with (in_state z j (suc i) l a) places p ≡ places
  unfolding states_with in_state
  item_states = refl

  -- so does a go line
  pub go_rules : rules_with (in_state z j 0 (suc l) a) places p ≡ places
  unfolding rules_with in_state
  go_rules = refl

  pub go_states : states_with (in_state z j 0 (suc l) a) places p ≡ places
  unfolding states_with in_state
  go_states = refl

-- ---- the line of a state

-- where states are left it is due
pub state_not_end : (z : Sizes) (j : ℕ) → is_end (due_of (in_state z (suc j) 0 0 0).due) ≡ false
unfolding in_state is_end
state_not_end z j = refl

-- where none is left no line is due
pub states_end : (z : Sizes) → (in_state z 0 0 0 0).due ≡ End
unfolding in_state
states_end z = refl

-- when it fits
pub state_fits : (z : Sizes) (j : ℕ) (lengths xs : List ℕ) → fits_shape (in_state z (suc j) 0 0 0) lengths xs ≡ fits_state xs
unfolding in_state fits_due
state_fits z j lengths xs = refl

-- it leaves the lengths as they were
pub state_lengths : (z : Sizes) (j : ℕ) (lengths xs : List ℕ) → lengths_with (in_state z (suc j) 0 0 0) lengths xs ≡ lengths
unfolding in_state lengths_with
state_lengths z j lengths xs = refl

-- it leaves the places of the rules
pub state_rules : (z : Sizes) (j : ℕ) (ra : List ℕ) (p : ℕ) → rules_with (in_state z (suc j) 0 0 0) ra p ≡ ra
unfolding in_state rules_with
state_rules z j ra p = refl

-- its place is noted
pub state_states : (z : Sizes) (j : ℕ) (sa : List ℕ) (p : ℕ) → states_with (in_state z (suc j) 0 0 0) sa p ≡ set sa (z.states - suc j) p
unfolding in_state states_with
state_states z j sa p = refl

-- an item is due where one is left
item_due : (z : Sizes) (j i l : ℕ) → 1 ≤ i → shape_in Item z j i l 0 ≡ in_state z j i l 0
unfolding in_state
item_due z j zero l h = impossible (omega arith)
item_due z j (suc i) l h = refl

-- its items and go lines are due after it
pub state_next : (z : Sizes) (j : ℕ) (xs : List ℕ) → 1 ≤ at xs 0 → next_shape (in_state z (suc j) 0 0 0) xs ≡ in_state z j (at xs 0) (at xs 1) 0
unfolding in_state next_shape
state_next z j xs h = item_due z j (at xs 0) (at xs 1) h
