use Rattle.forest.proofs.Growing.{sown, on, reaped, root_in, cut_off, sprouted, kids_grow, kids_done, no_kids, turned_falls}
use Rattle.forest.proofs.Shortness.{or_false}
use native.Mathlib.Omega.{arith}
use mathlib.Core.Bool.{or-true}
use mathlib.Core.Path.{◌∙◌, refl, sym}
use Rattle.forest.proofs.trees.+grow.Goals as goal

pub loop-a-init : goal.loop-a-init
loop-a-init t c = sown c.requires

pub get-n-requires : goal.get-n-requires
get-n-requires t c = let R = root_in c.loop-a.invariant c.loop-a-test.true in (omega arith, R.0, R.1)

pub put-requires : goal.put-requires
put-requires t c = let R = root_in c.loop-a.invariant c.loop-a-test.true in (omega arith, R.0, R.1, omega arith)

pub sprout-requires : goal.sprout-requires
sprout-requires t c = cut_off c.loop-a.invariant c.loop-a-test.true c.put.ensures

pub get-c-requires : goal.get-c-requires
get-c-requires t c = let R = root_in c.loop-a.invariant c.loop-a-test.true in (omega arith, R.0, R.1)

pub drop_one-requires : goal.drop_one-requires
drop_one-requires t c = root_in c.loop-a.invariant c.loop-a-test.true

pub grow-long-requires : goal.grow-long-requires
grow-long-requires t c = (
  omega (arith, c.decreases, c.if-depth-eq0.false),
  kids_grow c.loop-a.invariant c.loop-a-test.true c.drop_one.ensures c.get-c.ensures.0 c.if-depth-eq0.false,
)

pub loop-a-smaller-then-depth-eq0 : goal.loop-a-smaller-then-depth-eq0
loop-a-smaller-then-depth-eq0 t c =
    turned_falls (sprouted c.loop-a.invariant c.loop-a-test.true c.put.ensures c.if-depth-eq0.true c.sprout.ensures) c.get-n.ensures.0

pub loop-a-preserved-then-depth-eq0 : goal.loop-a-preserved-then-depth-eq0
loop-a-preserved-then-depth-eq0 t c =
    let T = sprouted c.loop-a.invariant c.loop-a-test.true c.put.ensures c.if-depth-eq0.true c.sprout.ensures in
    on c.loop-a.invariant T c.get-n.ensures.0 (c.sprout.auto.room ∙ c.put.auto.room) (sym (or_false c.loop-a.long))

pub loop-a-smaller-then-c-eq0 : goal.loop-a-smaller-then-c-eq0
loop-a-smaller-then-c-eq0 t c =
    turned_falls (no_kids c.loop-a.invariant c.loop-a-test.true c.drop_one.ensures c.get-c.ensures.0 c.if-depth-eq0.false c.if-c-eq0.true)
    c.get-n.ensures.0

pub loop-a-preserved-then-c-eq0 : goal.loop-a-preserved-then-c-eq0
loop-a-preserved-then-c-eq0 t c =
    let T = no_kids c.loop-a.invariant c.loop-a-test.true c.drop_one.ensures c.get-c.ensures.0 c.if-depth-eq0.false c.if-c-eq0.true in
    on c.loop-a.invariant T c.get-n.ensures.0 c.drop_one.auto.room (sym (or-true c.loop-a.long))

pub loop-a-smaller : goal.loop-a-smaller
loop-a-smaller t c =
    turned_falls (kids_done c.loop-a.invariant c.loop-a-test.true c.drop_one.ensures c.get-c.ensures.0 c.if-depth-eq0.false c.if-c-eq0.false
    c.grow-long.ensures) c.get-n.ensures.0

pub loop-a-preserved : goal.loop-a-preserved
loop-a-preserved t c =
    let T = kids_done c.loop-a.invariant c.loop-a-test.true c.drop_one.ensures c.get-c.ensures.0 c.if-depth-eq0.false c.if-c-eq0.false
    c.grow-long.ensures in
    on c.loop-a.invariant T c.get-n.ensures.0 (c.grow-long.auto.room ∙ c.drop_one.auto.room) refl

pub returns : goal.returns
returns t c = reaped c.loop-a.invariant c.loop-a-test.false
