-- `condition_5::breaks_5` meets its contract: the loop keeps that the states passed keep condition 5.
use Prim.Native.Nat.{◌<◌}
use Rattle.table.specs.Condition5.{MarksTo}
use Rattle.table.specs.Conditions.{KeptBelow}
use Rattle.table.specs.NotedTable.{table_of}
use Rattle.table.specs.Spots.{Spots}
use Rattle.table.proofs.condition_5.breaks_5.Given as goal

abbrev pub invariant-loop-s : goal.invariant-loop-s
invariant-loop-s l = record {
  kept : KeptBelow (table_of l.t) 5 l.s;
  spots : l.s < l.t.table.now.sizes.states → Spots l.t.table.now.numbers.now l.t.table.now.state_at.now l.s 0 l.spots;
  marks : MarksTo l.s l.marks;
}
