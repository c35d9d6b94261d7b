-- `go_on` meets its contract. The invariant: what is left from here gives what is asked of the whole tail.
use Rattle.judge.proofs.Running.{Going}
use Rattle.judge.proofs.run.go_on.Given as goal

abbrev pub invariant-loop-i : goal.invariant-loop-i
invariant-loop-i l = Going l.initial.room l.rows.acts.now l.rows.go.now l.rows.lens.now l.rows.lefts.now l.rows.states l.tail l.room l.i l.steps
