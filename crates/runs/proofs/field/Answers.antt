-- Each end of the number is an end that the text says, and a digit goes on.
use Rattle.std.proofs.Common.{arith, ◌∙◌, ◌≡◌}
use Rattle.std.proofs.lemmas.Bool.Decides.{nat_tests}
use Rattle.runs.specs.Fields.{goes_on, at_end, at_other, at_digit}
use Rattle.runs.proofs.field.Goals as goal

pub returns-in_default : goal.returns-in_default
unfolding goes_on
returns-in_default c =
    let l = c.loop-i in
    at_other c.args.s.now l.value l.i c.loop-i-test.true (grind (arith, nat_tests)) ∙ l.invariant.2

pub loop-i-preserved : goal.loop-i-preserved
loop-i-preserved c =
    let l = c.loop-i in
    let h = c.if-value-le-MAX_NUMBER.true in
    let e = at_digit c.args.s.now l.value l.i c.loop-i-test.true c.from.result (omega arith) (omega arith) h in
    (omega arith, omega arith, e ∙ l.invariant.2)

pub returns : goal.returns
returns c =
    let e : c.max.result ≡ c.loop-i.i = omega arith in
    rw e (at_end c.args.s.now c.loop-i.value c.loop-i.i c.loop-i-test.false ∙ c.loop-i.invariant.2)
