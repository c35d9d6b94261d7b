-- `grow` meets its contract. The number that falls is the depth; in the loop it is the live nodes left. The invariant: to grow what is
-- left is to grow what was asked for, and a path is short if one was so far or one is in what is left.
use Rattle.forest.proofs.Growing.{Sown}
use Rattle.forest.specs.Trees.{live}
use Rattle.forest.proofs.trees.+grow.Given as goal

abbrev pub decreases-grow : goal.decreases-grow
decreases-grow l = l.depth

abbrev pub invariant-loop-a : goal.invariant-loop-a
invariant-loop-a l = Sown l.initial.room l.row l.depth l.x l.long l.room l.a

abbrev pub decreases-loop-a : goal.decreases-loop-a
decreases-loop-a l = live l.room l.a
