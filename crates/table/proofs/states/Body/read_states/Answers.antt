use native.Mathlib.Omega.{arith}
use Rattle.std.proofs.lemmas.Result.{err_from_is_err_and}
use Rattle.table.proofs.StatesRead.{states-stop, states-more, states-over, states-fine, states-noted}
use Rattle.table.proofs.states.Body.read_states.Goals as goal

pub returns-in_err-next : goal.returns-in_err-next
returns-in_err-next c = let p = err_from_is_err_and c.from_residual.result c.from_residual.ensures.1 in
    rw (p.1, p.2) (λ ra h. (states-stop c.loop-s.invariant c.loop-s-test.true c.in_err-next.ensures h, tt))

pub loop-s-preserved : goal.loop-s-preserved
loop-s-preserved c = let (r, g, w) = c.in_ok-next.ensures in
    states-more c.loop-s.invariant c.loop-s-test.true c.args.self.now.within.states_in r g w

pub returns-then-reached-self : goal.returns-then-reached-self
returns-then-reached-self c = let l = c.loop-s-test.false in
    λ ra h. (states-over c.loop-s.invariant c.args.self.now.within.few (omega arith) c.if-reached-self.true h, tt)

pub returns : goal.returns
returns c = let l = c.loop-s-test.false in
    let m = c.if-reached-self.false in
    let i = c.loop-s.invariant in
    λ ra h. let F = states-fine i c.args.self.now.within.few (omega arith) (omega arith) h in (F, λ room. states-noted i (omega arith) F room)
