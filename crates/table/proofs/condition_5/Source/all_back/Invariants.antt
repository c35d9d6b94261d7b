-- `condition_5::Source::all_back` meets its contract: the loop keeps that the items passed
-- come from the state, and are marked.
use Prim.Native.Nat.{ℕ, ◌<◌}
use lib.ListN.{get_or}
use Rattle.theory.specs.Table.{state_at}
use Rattle.table.specs.Condition5.{From, MarkedAt, Back}
use Rattle.table.specs.Items.{AtItem}
use Rattle.table.specs.NotedTable.{table_of}
use Rattle.table.specs.Places.{no_item}
use Rattle.table.proofs.Marks.{Some}
use Rattle.table.proofs.condition_5.Source.all_back.Given as goal

abbrev pub invariant-loop : goal.invariant-loop
invariant-loop l = record {
  walk : AtItem l.self.noted.now.table.now.numbers.now l.self.noted.now.table.now.state_at.now l.to l.n l.counter l.at;
  back : (j : ℕ) → j < l.counter →
      Back (table_of l.self.noted.now) l.self.s l.x
      (get_or (state_at (table_of l.self.noted.now) l.to).items j no_item);
  marked : MarkedAt l.self.s (Some From (state_at (table_of l.self.noted.now) l.to).items no_item l.counter)
      l.initial.marks l.marks;
}
