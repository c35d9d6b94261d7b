-- `step` meets its contract by the laws of a step.
use Rattle.forest.proofs.Stepping.{step_mark, step_end, step_reduce, step_steps}
use lib.ListN.{set}
use mathlib.Core.Bool.{true}
use Rattle.forest.proofs.phase.step.Goals as goal

pub bounds-marks-left : goal.bounds-marks-left
bounds-marks-left c = step_mark c.requires c.left-left.ensures c.length-length.ensures

pub targets-requires : goal.targets-requires
targets-requires c = step_end c.requires c.left-left.ensures c.length-length.ensures

pub reduce-requires : goal.reduce-requires
reduce-requires c = step_reduce c.requires c.left-left.ensures c.length-length.ensures c.targets.ensures

pub bounds-marks-left-then-reduce : goal.bounds-marks-left-then-reduce
bounds-marks-left-then-reduce c = step_mark c.requires c.left-left.ensures c.length-length.ensures

pub returns-then-reduce : goal.returns-then-reduce
returns-then-reduce c =
    step_steps c.requires c.left-left.ensures c.length-length.ensures c.targets.ensures
    c.reduce.new.room (set c.args.marks.now c.left-left.result true) c.reduce.result c.reduce.ensures (simp c.if-reduce.true)

pub returns-else-reduce : goal.returns-else-reduce
returns-else-reduce c =
    step_steps c.requires c.left-left.ensures c.length-length.ensures c.targets.ensures
    c.reduce.new.room c.args.marks.now c.reduce.result c.reduce.ensures (simp c.if-reduce.false)
