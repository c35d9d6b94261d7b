-- `plant` meets its contract. The invariant: of the entries passed, from the last on, all is made.
use Rattle.forest.proofs.Planting.{Sown}
use Rattle.forest.proofs.paths.plant.Given as goal

abbrev pub invariant-loop-i : goal.invariant-loop-i
invariant-loop-i l = Sown l.initial.room l.paths l.room l.x l.i
