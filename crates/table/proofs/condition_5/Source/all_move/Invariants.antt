-- `condition_5::Source::all_move` meets its contract: the loop keeps that the items passed move on.
use Prim.Native.Nat.{ℕ, ◌<◌}
use lib.ListN.{get_or}
use Rattle.theory.specs.Table.{state_at}
use Rattle.table.specs.Condition5.{Onward}
use Rattle.table.specs.Items.{AtItem}
use Rattle.table.specs.NotedTable.{table_of}
use Rattle.table.specs.Places.{no_item}
use Rattle.table.proofs.condition_5.Source.all_move.Given as goal

abbrev pub invariant-loop : goal.invariant-loop
invariant-loop l = record {
  walk : AtItem l.self.noted.now.table.now.numbers.now
      l.self.noted.now.table.now.state_at.now l.self.s l.n l.counter l.at;
  onward : (j : ℕ) → j < l.counter →
      Onward (table_of l.self.noted.now) l.self.s
      (get_or (state_at (table_of l.self.noted.now) l.self.s).items j no_item);
}
