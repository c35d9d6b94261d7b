-- `phase` meets its contract. The invariant: what is left of the phase is the rest of the whole.
use Rattle.forest.proofs.Phasing.{Turn}
use Rattle.forest.proofs.phase.phase.Given as goal

abbrev pub invariant-loop-n : goal.invariant-loop-n
invariant-loop-n l = Turn l.initial.room l.acts l.rows.go.now l.rows.lens.now l.rows.lefts.now l.rows.states l.room l.marks l.n
