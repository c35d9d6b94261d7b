use Rattle.forest.proofs.Planting.{Sown, sown_first, sown_two, sown_hung, sown_small, sown_hang, sown_left, sown_took, sown_root, sown_down, sown_done}
use native.Mathlib.Omega.{arith}
use Prim.Native.Nat.{◌-◌}
use Prim.Native.Nat.{ℕ}
use mathlib.Core.List.{List}
use mathlib.Core.Path.{subst⁻¹}
use Rattle.forest.proofs.paths.plant.Goals as goal

pub loop-i-init : goal.loop-i-init
loop-i-init c = sown_first c.args.room.now c.args.paths.now c.requires.0 c.requires.1

pub take-p-requires : goal.take-p-requires
take-p-requires c = sown_left (sown_down c.loop-i-test.true c.loop-i.invariant)

pub lay-requires : goal.lay-requires
lay-requires c =
    let G = sown_down c.loop-i-test.true c.loop-i.invariant in
    let k = sown_small G in
    (sown_took G c.take-p.new.room c.take-p.result c.take-p.ensures, omega (arith, c.take-p.auto.room, k.0), omega (arith, c.in-Some.ensures.1), k.1)

pub loop-i-preserved-in-Some : goal.loop-i-preserved-in-Some
loop-i-preserved-in-Some c =
    let G = sown_down c.loop-i-test.true c.loop-i.invariant in
    subst⁻¹ (λ (l : List ℕ). Sown c.args.room.now c.args.paths.now l c.take-p.result (c.loop-i.i - 1)) c.lay.ensures
    (sown_root G c.in-Some.state c.in-Some.ensures.0 c.take-p.new.room c.take-p.result c.take-p.ensures c.take-p.auto.room)

pub hang-requires : goal.hang-requires
hang-requires c = sown_two c.loop-i.invariant

pub loop-i-preserved : goal.loop-i-preserved
loop-i-preserved c =
    let G = sown_down c.loop-i-test.true c.loop-i.invariant in
    sown_hang G c.in_default.ensures c.hang.new.room c.hang.ensures c.hang.auto.room

pub hang-requires-2 : goal.hang-requires-2
hang-requires-2 c = sown_two c.loop-i.invariant

pub returns : goal.returns
returns c = sown_done c.loop-i-test.false (sown_hung c.loop-i.invariant c.hang-2.new.room c.hang-2.ensures)
