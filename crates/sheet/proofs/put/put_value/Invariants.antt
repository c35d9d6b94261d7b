-- `put_value`: the loop's invariant is `Putting`: the numbers so far stand at the front,
-- and the others are still to be read.
use Rattle.sheet.specs.Putting.{Putting}
use Rattle.sheet.proofs.put.put_value.Given as goal

abbrev pub invariant-loop-c : goal.invariant-loop-c
invariant-loop-c l = Putting l.s l.initial.out l.out l.c-index l.n l.value
