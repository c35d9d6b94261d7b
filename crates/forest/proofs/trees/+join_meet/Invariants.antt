-- `join` and `meet` meet their contracts. The number that falls is the live nodes at both places. The invariant of the loop: a join
-- of what is left is the join that was asked for.
use Rattle.forest.proofs.Turns.{Going}
use Rattle.forest.specs.Trees.{live}
use Rattle.forest.specs.Words.{at}
use Prim.Native.Nat.{◌+◌, ◌*◌}
use Rattle.forest.proofs.trees.+join_meet.Given as goal

abbrev pub decreases-join : goal.decreases-join
decreases-join l = 2 * (live l.room.now l.x + live l.room.now l.y)

abbrev pub decreases-meet : goal.decreases-meet
decreases-meet l = 2 * (live l.room.now (at l.room.now l.a 1) + live l.room.now (at l.room.now l.b 1)) + 1

abbrev pub invariant-join-loop-a : goal.invariant-join-loop-a
invariant-join-loop-a l = Going l.initial.room l.to l.word l.x l.y l.room l.d l.j l.a l.b

abbrev pub decreases-join-loop-a : goal.decreases-join-loop-a
decreases-join-loop-a l = live l.room l.a + live l.room l.b
