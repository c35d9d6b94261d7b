-- The sheet's bytes stand at its front.
use Rattle.std.proofs.Common.{◌≤◌, length}
use Rattle.sheet_runs.proofs.cases.sheet_of.Given as goal

abbrev pub invariant-loop : goal.invariant-loop
invariant-loop l = l.made.value ≤ length l.sheet

abbrev pub invariant-loop-2 : goal.invariant-loop-2
invariant-loop-2 l = l.made.value ≤ length l.sheet
