-- The look-ahead sets of all items, made once: the set of the item at a place stands at a quarter of the place, since an item's line takes at
-- least four, its count among them.
use Rattle.std.specs.Prelude.{ℕ, suc, ◌+◌, ◌*◌, ◌/◌, ◌≤◌, ◌<◌, ◌≡◌, true, List, length, get_or, Result, Ok, Err}
use mathlib.Core.List.{Memᴰ as Mem}
use Rattle.theory.specs.Table.{state_at, has}
use Rattle.table.specs.declared.Sizes.{Sizes}
use Rattle.table.specs.declared.Unread.{Unread}
use Rattle.table.specs.Items.{item_in}
use Rattle.table.specs.Places.{table_in, grammar_in, item_place}
use Rattle.table.specs.Sets.{SetOf}

-- the set of the item at a place is noted
pub record SetNoted (ns sets : List ℕ) (p : ℕ) : Type 0 where
  pub room : p < 4 * length sets
  pub set : SetOf (λ a. Mem a (item_in ns p).ahead) (suc (grammar_in ns).terms) (get_or sets (p / 4) 0)

-- the place of a state's k-th item
abbrev pub place_of : List ℕ → List ℕ → ℕ → ℕ → ℕ
place_of ns places s k = item_place (get_or places s 0 + 3) (state_at (table_in ns) s).items k

-- the sets of all items of all states are noted
abbrev pub AllNoted : List ℕ → List ℕ → Sizes → List ℕ → Type 0
AllNoted ns places z sets = (s : ℕ) → s < z.states → (k : ℕ) → k < length (state_at (table_in ns) s).items → SetNoted ns sets (place_of ns places s k)

-- the set of the item at a place is noted, where a test tells of the item's tokens: so there is one proof of it
pub record SetTold (ns sets : List ℕ) (p : ℕ) : Type 0 where
  pub room : p < 4 * length sets
  pub set : SetOf (λ a. has (item_in ns p).ahead a ≡ true) (suc (grammar_in ns).terms) (get_or sets (p / 4) 0)

-- the sets of all items of all states are noted, by that test
abbrev pub AllTold : List ℕ → List ℕ → Sizes → List ℕ → Type 0
AllTold ns places z sets = (s : ℕ) → s < z.states → (k : ℕ) → k < length (state_at (table_in ns) s).items → SetTold ns sets (place_of ns places s k)

-- what reading the lines of a table leaves of the sets: where all fit, and there is room, those of all items are noted
abbrev pub SetsRead : List ℕ → List ℕ → List ℕ → Result Sizes Unread → Type 0
SetsRead ns places sets (Err e) = Unit
SetsRead ns places sets (Ok z) = length ns ≤ 4 * length sets → AllNoted ns places z sets
