-- `choose` meets its contract. The invariant: what is chosen of the roots left is chosen of all. The number that falls is their live nodes.
use Rattle.forest.proofs.Picking.{Picked-on}
use Rattle.forest.specs.Trees.{live}
use Rattle.forest.proofs.trees.choose.Given as goal

abbrev pub invariant-loop-a : goal.invariant-loop-a
invariant-loop-a l = Picked-on l.initial.room l.acts l.room l.d l.j l.a

abbrev pub decreases-loop-a : goal.decreases-loop-a
decreases-loop-a l = live l.room l.a
