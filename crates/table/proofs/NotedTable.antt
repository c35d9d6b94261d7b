-- Of a table with noted look-ahead sets: the rule and the dot of an item have a number, and what a walk over the items
-- of a state has come to.
use Prim.Native.Nat.{ℕ, ◌<◌}
use Rattle.table.specs.declared.aheads.Noted.{Noted}
use Rattle.table.specs.Items.{AtItem, ItemHeld}
use Rattle.table.specs.Items.Held.{walk_here}
use Rattle.table.specs.NotedTable.{table_of, item_of, ItemNoted}
use Rattle.table.specs.Spots.{CoreIn}
use Rattle.table.proofs.SetsNoted.{all_noted, noted_walk}
use Rattle.table.proofs.Spotted.{core_in}

-- the item that stands at a place has a number
pub item_core : (t : Noted) (at : ℕ) → ItemHeld t.table.now.numbers.now at →
    CoreIn (item_of t at).rule (item_of t at).dot
item_core t at h = core_in (table_of t) t.table.now.rules_held.in_range (item_of t at) h.within

-- the item that a walk has come to is held, and its set is noted
pub item_noted : (t : Noted) (s : ℕ) → s < t.table.now.sizes.states → {n k at : ℕ} →
    AtItem t.table.now.numbers.now t.table.now.state_at.now s n k at → k < n → ItemNoted t at
item_noted t s l w g = let z = t.table.now in record {
  held = (walk_here z.states_held s l w g).held;
  set = noted_walk z.state_at.now z.sizes (all_noted _ z.sizes t.all_told) s l w g;
}
