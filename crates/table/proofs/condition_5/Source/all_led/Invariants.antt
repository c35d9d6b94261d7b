-- `condition_5::Source::all_led` meets its contract: the loop keeps that the go lines passed are led, and the
-- items of their targets marked.
use Prim.Native.Nat.{ℕ, ◌<◌}
use lib.ListN.{get_or}
use Rattle.theory.specs.Table.{Go, state_at}
use Rattle.table.specs.Condition5.{Led, MarkedAt, MetIn}
use Rattle.table.specs.Items.{AtGo}
use Rattle.table.specs.NotedTable.{table_of}
use Rattle.table.specs.Places.{no_go}
use Rattle.table.proofs.Marks.{Some}
use Rattle.table.proofs.condition_5.Source.all_led.Given as goal

abbrev pub invariant-loop : goal.invariant-loop
invariant-loop l = record {
  walk : AtGo l.self.noted.now.table.now.numbers.now
      l.self.noted.now.table.now.state_at.now l.self.s l.n l.counter l.at;
  led : (j : ℕ) → j < l.counter →
      Led (table_of l.self.noted.now) l.self.s (get_or (state_at (table_of l.self.noted.now) l.self.s).gos j no_go);
  marked : MarkedAt l.self.s (Some (λ (g : Go). MetIn (table_of l.self.noted.now) l.self.s g.to)
      (state_at (table_of l.self.noted.now) l.self.s).gos no_go l.counter) l.initial.marks l.marks;
}
