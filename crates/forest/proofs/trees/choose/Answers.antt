use Rattle.forest.proofs.Picking.{none_picked, root_in, root_state, root_falls, root_passed, root_picked}
use native.Mathlib.Omega.{arith}
use mathlib.Core.Path.{refl}
use Rattle.forest.proofs.trees.choose.Goals as goal

pub loop-a-init : goal.loop-a-init
loop-a-init c = record { some = c.requires; is = c.get-a.ensures.0; same = refl; back = λ v r H. H }

pub get-s-requires : goal.get-s-requires
get-s-requires c = let R = root_in c.loop-a.invariant c.loop-a-test.true in (omega arith, R.0, R.1)

pub get-n-requires : goal.get-n-requires
get-n-requires c = let R = root_in c.loop-a.invariant c.loop-a-test.true in (omega arith, R.0, R.1)

pub bounds-acts-s : goal.bounds-acts-s
bounds-acts-s c = omega (arith, root_state c.loop-a.invariant c.loop-a-test.true, c.get-s.ensures.0)

pub put-requires-in-Some : goal.put-requires-in-Some
put-requires-in-Some c =
    let R = root_in c.loop-a.invariant c.loop-a-test.true in
    let k = c.put.auto.room in
    (omega arith, omega (arith, k, R.0), omega (arith, k, R.1), omega arith)

pub returns-in-Some : goal.returns-in-Some
returns-in-Some c =
    root_picked c.loop-a.invariant c.loop-a-test.true c.get-s.ensures.0 c.get-n.ensures.0 c.in-Some.rule c.in-Some.ensures.0
    c.put.new.room c.put-in-Some.new.room c.put.ensures c.put-in-Some.ensures

pub loop-a-smaller : goal.loop-a-smaller
loop-a-smaller c = root_falls c.loop-a.invariant c.loop-a-test.true c.get-s.ensures.0 c.get-n.ensures.0

pub loop-a-preserved : goal.loop-a-preserved
loop-a-preserved c =
    root_passed c.loop-a.invariant c.loop-a-test.true c.get-s.ensures.0 c.get-n.ensures.0 c.in_default.ensures

pub returns : goal.returns
returns c = none_picked c.loop-a.invariant c.loop-a-test.false
