use Rattle.forest.proofs.Phasing.{begins, turn_choose, turn_ends, turn_limit, turn_step, turn_again}
use native.Mathlib.Omega.{arith}
use Rattle.forest.proofs.phase.phase.Goals as goal

pub loop-n-init : goal.loop-n-init
loop-n-init c = begins

pub choose-requires : goal.choose-requires
choose-requires c = turn_choose c.loop-n.invariant c.requires

pub returns-in_default : goal.returns-in_default
returns-in_default c = turn_ends c.loop-n.invariant c.in_default.ensures

pub step-requires : goal.step-requires
step-requires c =
    let picked = c.in-Some.ensures in
    turn_step c.loop-n.invariant picked.0 picked.1 c.requires c.in-Some.pick.rule picked.2

pub loop-n-preserved : goal.loop-n-preserved
loop-n-preserved c =
    let picked = c.in-Some.ensures in
    turn_again c.loop-n.invariant picked.0 picked.1 c.in-Some.pick.rule picked.2 c.step.new.room c.step.new.marks c.step.ensures

pub returns : goal.returns
returns c = turn_limit c.loop-n.invariant (omega (arith, c.loop-n-test.false, c.loop-n.auto.n-end))
