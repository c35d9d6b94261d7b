-- Items and go lines by the places of their lines, and what the functions over the states of a table ask for.
use Rattle.std.specs.Prelude.{ℕ, ◌+◌, ◌-◌, ◌*◌, ◌≤◌, ◌<◌, ◌≡◌, List, length, get_or, take, drop}
use Rattle.theory.specs.Table.{Item, Go, state_at, count}
use Rattle.lines.specs.Limits.{max_terms}
use Rattle.lines.specs.Ranges.{InRange, ItemIn, GoIn}
use Rattle.table.specs.declared.Sizes.{Sizes}
use Rattle.table.specs.Places.{ItemAt, StatesAt, item_place, gos_place, table_in, grammar_in}
pub mod Held
pub mod Dot

-- ---- one line

-- the item whose line stands at a place
unfoldable pub item_in : List ℕ → ℕ → Item
item_in ns p = record { rule = get_or ns (p + 1) 0; dot = get_or ns (p + 2) 0; ahead = take (get_or ns p 0 - 2) (drop (p + 3) ns) }

-- the go line that stands at a place
abbrev pub go_here : List ℕ → ℕ → Go
go_here ns p = record { on = get_or ns (p + 1) 0; to = get_or ns (p + 2) 0 }

-- the line of an item within the ranges stands at the place
pub record ItemHeld (ns : List ℕ) (p : ℕ) : Type 0 where
  pub line : ItemAt ns p (item_in ns p)
  pub within : ItemIn (grammar_in ns) (item_in ns p)
  pub terms_in : (grammar_in ns).terms ≤ max_terms

-- the line of this item, which is within the ranges, stands at the place
pub record ItemHere (ns : List ℕ) (p : ℕ) (i : Item) : Type 0 where
  pub held : ItemHeld ns p
  pub same : item_in ns p ≡ i

-- the line of this go line, which is within the ranges, stands at the place
pub record GoHere (ns : List ℕ) (p : ℕ) (l : Go) : Type 0 where
  pub inside : p + 2 < length ns
  pub within : GoIn (grammar_in ns) (count (table_in ns)) l
  pub same : go_here ns p ≡ l

-- ---- all states

-- the numbers are those of a table within the ranges, of these sizes, whose states stand at these places
pub record StatesHeld (ns places : List ℕ) (z : Sizes) : Type 0 where
  pub in_range : InRange (table_in ns)
  pub terms_are : z.terms ≡ (grammar_in ns).terms
  pub nonterms_are : z.nonterms ≡ (grammar_in ns).nonterms
  pub rules_are : z.rules ≡ length (grammar_in ns).rules
  pub states_are : z.states ≡ count (table_in ns)
  pub states_at : StatesAt ns places (table_in ns)

-- ---- walks

-- a walk over the n items of a state has come to the k-th, whose line stands at the place
pub record AtItem (ns places : List ℕ) (s n k at : ℕ) : Type 0 where
  pub counted : n ≡ length (state_at (table_in ns) s).items
  pub passed : k ≤ n
  pub stands : at ≡ item_place (get_or places s 0 + 3) (state_at (table_in ns) s).items k

-- a walk over the n go lines of a state has come to the k-th, whose line stands at the place
pub record AtGo (ns places : List ℕ) (s n k at : ℕ) : Type 0 where
  pub counted : n ≡ length (state_at (table_in ns) s).gos
  pub passed : k ≤ n
  pub stands : at ≡ gos_place (get_or places s 0) (state_at (table_in ns) s) + 3 * k

-- ---- one item

-- the item has this rule and this dot
abbrev pub Agrees : ℕ → ℕ → Item → Type 0
Agrees rule dot i = (i.rule ≡ rule) × (i.dot ≡ dot)
