-- `numbers`: the loop's invariant is `Keeping`: the numbers read are kept, and put before those that are left
-- they are the value's.
use lib.ListN.{length}
use Rattle.sheet.specs.Text.Readings.{Keeping}
use Rattle.sheet.proofs.text.numbers.Given as goal

abbrev pub invariant-loop-value : goal.invariant-loop-value
invariant-loop-value l = Keeping l.s l.initial.kept l.kept l.rest l.n l.top

abbrev pub decreases-loop-value : goal.decreases-loop-value
decreases-loop-value l = length l.rest
