-- `place_of` meets its contract. The invariant: to join what is left is to join all roots.
use Rattle.forest.specs.Joins.{Passed}
use Rattle.forest.specs.Trees.{live}
use Rattle.forest.proofs.trees.place_of.Given as goal

abbrev pub invariant-loop-place : goal.invariant-loop-place
invariant-loop-place l = Passed l.room l.p l.place.node l.place.word l.place.rest

abbrev pub decreases-loop-place : goal.decreases-loop-place
decreases-loop-place l = live l.room l.place.rest
