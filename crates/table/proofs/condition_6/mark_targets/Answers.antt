-- The loop of `condition_6::mark_targets` marks the target of each go line, which is a state of the table.
use native.Mathlib.Omega.{arith}
use mathlib.Core.Path.{◌∙◌, ap}
use Rattle.theory.specs.Table.{Go, state_at}
use Rattle.table.specs.Items.Held.{go_walk_here, go_walk_on}
use Rattle.table.specs.Places.{table_in}
use Rattle.table.proofs.Led.{mark_more}
use Rattle.table.proofs.condition_6.mark_targets.Goals as goal

pub bounds-led-go_to : goal.bounds-led-go_to
bounds-led-go_to c =
    let here = go_walk_here c.args.t.now.states_held c.args.s c.requires.0 c.loop.invariant.0 c.loop-test.true in
    let to = c.go_to.ensures ∙ ap (λ (l : Go). l.to) here.same in
    omega arith

pub loop-preserved : goal.loop-preserved
loop-preserved c =
    let (w, marks) = c.loop.invariant in
    let more = c.loop-test.true in
    let here = go_walk_here c.args.t.now.states_held c.args.s c.requires.0 w more in
    let to = c.go_to.ensures ∙ ap (λ (l : Go). l.to) here.same in
    let gos = (state_at (table_in c.args.t.now.numbers.now) c.args.s).gos in
    (go_walk_on w more, mark_more gos c.loop.counter (omega arith) to (omega arith) marks)
