-- `spots::note_items` meets its contract: the loop keeps that the places of the items passed are noted, and that each
-- differs from those before it.
use Prim.Native.Nat.{ℕ, ◌<◌}
use Rattle.theory.specs.Table.{state_at}
use Rattle.table.specs.Items.{AtItem}
use Rattle.table.specs.Places.{table_in}
use Rattle.table.specs.Spots.{Spots}
use Rattle.table.proofs.Twice.{Lone}
use Rattle.table.proofs.spots.note_items.Given as goal

abbrev pub invariant-loop : goal.invariant-loop
invariant-loop l = AtItem l.t.numbers.now l.t.state_at.now l.s l.end l.counter l.at
    × Spots l.t.numbers.now l.t.state_at.now l.s l.counter l.spots
    × ((m : ℕ) → m < l.counter → Lone (state_at (table_in l.t.numbers.now) l.s).items m)
