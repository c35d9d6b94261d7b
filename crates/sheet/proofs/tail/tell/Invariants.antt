-- `tell`: the loop's invariant is `Telling`: the numbers read, which are tallied, put before those that are left,
-- are the value's.
use lib.ListN.{length}
use Rattle.sheet.specs.Tail.Telling.{Telling}
use Rattle.sheet.proofs.tail.tell.Given as goal

abbrev pub invariant-loop-value : goal.invariant-loop-value
invariant-loop-value l = Telling l.s l.rest l.n l.top

abbrev pub decreases-loop-value : goal.decreases-loop-value
decreases-loop-value l = length l.rest
