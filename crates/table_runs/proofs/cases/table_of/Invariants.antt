-- The table's numbers stand at its front.
use Rattle.std.proofs.Common.{◌≤◌, length}
use Rattle.table_runs.proofs.cases.table_of.Given as goal

abbrev pub invariant-loop : goal.invariant-loop
invariant-loop l = l.made.value ≤ length l.table
