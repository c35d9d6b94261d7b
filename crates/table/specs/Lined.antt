-- Reading the lines of a table: what is answered, and the places that are noted on the way.
use Rattle.std.specs.Prelude.{ℕ, ◌-◌, ◌≤◌, ◌<◌, ◌≡◌, List, set, Result, Ok, Err}
use Rattle.lines.specs.Limits.{max_rules, max_numbers}
use Rattle.lines.specs.Lines.{Lined, read_numbers}
use Rattle.lines.specs.Ranges.{finished}
use Rattle.lines.specs.declared.shape.Due.TheVariants.{Terms, Nonterms, Rules, Rule, States, State, Item, Go, End}
use Rattle.lines.specs.declared.shape.Shape.{Shape}
use Rattle.table.specs.declared.Fault.{Fault}
use Rattle.table.specs.declared.Sizes.{Sizes}
use Rattle.table.specs.declared.Unread.{Unread}
use Rattle.table.specs.Places.{table_in, Held, StatesAt}

-- the places of the rules, with that of a rule line noted; other lines leave them
unfoldable pub rules_with : Shape → List ℕ → ℕ → List ℕ
rules_with s places p = elim s.due [
  | Terms ↦ places
  | Nonterms ↦ places
  | Rules ↦ places
  | Rule ↦ set places s.rules p
  | States ↦ places
  | State ↦ places
  | Item ↦ places
  | Go ↦ places
  | End ↦ places
]

-- the places of the states, with that of a state line noted; other lines leave them
unfoldable pub states_with : Shape → List ℕ → ℕ → List ℕ
states_with s places p = elim s.due [
  | Terms ↦ places
  | Nonterms ↦ places
  | Rules ↦ places
  | Rule ↦ places
  | States ↦ places
  | State ↦ set places (s.states - s.states_left) p
  | Item ↦ places
  | Go ↦ places
  | End ↦ places
]

-- a rule line may be noted at its place: there is room for it
pub record Notable (s : Shape) (p : ℕ) : Type 0 where
  pub small : p ≤ max_numbers
  pub rule : s.due ≡ Rule → s.rules < max_rules

-- the sizes that a shape says
abbrev pub sizes_of : Shape → Sizes
sizes_of s = record { terms = s.terms; nonterms = s.nonterms; rules = s.rules; states = s.states }

-- all lines fit, and the table's sizes and places are these
pub record Fine (ns rulePlaces statePlaces : List ℕ) (z : Sizes) : Type 0 where
  pub fine : read_numbers ns ≡ Lined.fine (finished (table_in ns))
  pub held : Held ns rulePlaces z
  pub states_at : StatesAt ns statePlaces (table_in ns)

-- the numbers are not those of a table's lines, for this reason
abbrev pub Refused : List ℕ → Unread → Type 0
Refused ns Unread.TooLong = read_numbers ns ≡ Lined.over
Refused ns (Unread.Unfit n) = read_numbers ns ≡ Lined.unfit n

-- what reading the numbers answers; where all lines fit the places are noted
abbrev pub Reads : List ℕ → List ℕ → List ℕ → Result Sizes Unread → Type 0
Reads ns rulePlaces statePlaces (Err e) = Refused ns e
Reads ns rulePlaces statePlaces (Ok z) = Fine ns rulePlaces statePlaces z

-- the fault that such a reason is
abbrev pub fault_of : Unread → Fault
fault_of Unread.TooLong = Fault.TooLong
fault_of (Unread.Unfit n) = Fault.Unfit n
