use Rattle.judge.proofs.Running.{go_take, go_few, go_stop, go_again, go_piece}
use native.Mathlib.Omega.{arith}
use Rattle.judge.proofs.run.go_on.Goals as goal

pub loop-i-init : goal.loop-i-init
loop-i-init c = record { along = λ t K. K.first }

pub next-f-requires : goal.next-f-requires
next-f-requires c = go_take c.loop-i.invariant c.loop-i-test.true c.from.ensures c.requires

pub overflow_add-steps : goal.overflow_add-steps
overflow_add-steps c =
    omega (arith, go_few c.loop-i.invariant c.loop-i-test.true c.from.ensures c.next-f.ensures c.requires, c.requires.can.run.few, c.loop-i-test.true)

pub returns-then-f : goal.returns-then-f
returns-then-f c = go_stop c.loop-i.invariant c.loop-i-test.true c.from.ensures c.next-f.ensures c.if-f.true

pub loop-i-preserved : goal.loop-i-preserved
loop-i-preserved c = go_again c.loop-i.invariant c.loop-i-test.true c.from.ensures c.next-f.ensures c.if-f.false

pub returns : goal.returns
returns c = λ t K. go_piece c.loop-i.invariant (omega (arith, c.loop-i-test.false, c.loop-i.auto.i-end, K.some)) t K
