-- `condition_2::breaks_2` meets its contract: the loop keeps that the states passed keep the condition.
use Prim.Native.Nat.{◌<◌}
use Rattle.table.specs.Conditions.{KeptBelow}
use Rattle.table.specs.Places.{table_in}
use Rattle.table.specs.Spots.{Spots}
use Rattle.table.proofs.condition_2.breaks_2.Given as goal

abbrev pub invariant-loop-s : goal.invariant-loop-s
invariant-loop-s l = KeptBelow (table_in l.t.numbers.now) 2 l.s
    × (l.s < l.t.sizes.states → Spots l.t.numbers.now l.t.state_at.now l.s 0 l.spots)
