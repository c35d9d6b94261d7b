-- `condition_6::breaks_6` meets its contract: the loop keeps that the marks are the targets of the states passed, and
-- that those keep the condition.
use Rattle.table.specs.Conditions.{KeptBelow}
use Rattle.table.specs.Places.{table_in}
use Rattle.table.proofs.Led.{Led}
use Rattle.table.proofs.condition_6.breaks_6.Given as goal

abbrev pub invariant-loop-s : goal.invariant-loop-s
invariant-loop-s l = Led (table_in l.t.numbers.now) l.s l.led × KeptBelow (table_in l.t.numbers.now) 6 l.s
