-- `spread` meets its contract. The invariant: set aside are the trees of the entries passed, from the last on.
use Rattle.forest.proofs.Spreading.{Goes}
use Rattle.forest.proofs.trees.spread.Given as goal

abbrev pub invariant-loop-i : goal.invariant-loop-i
invariant-loop-i l = Goes l.initial.room l.row l.room l.i
