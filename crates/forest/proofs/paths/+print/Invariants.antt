-- `print` meets its contract. The number that falls is that of the live nodes, in the loop too. The invariant: the print of what is left is
-- the rest of the print.
use Rattle.forest.proofs.Printing.{Told}
use Rattle.forest.specs.Trees.{live}
use Rattle.forest.proofs.paths.+print.Given as goal

abbrev pub decreases-print : goal.decreases-print
decreases-print l = live l.room.now l.x

abbrev pub invariant-loop-a : goal.invariant-loop-a
invariant-loop-a l = Told l.room l.x l.initial.out l.n l.out l.a l.k

abbrev pub decreases-loop-a : goal.decreases-loop-a
decreases-loop-a l = live l.room l.a
