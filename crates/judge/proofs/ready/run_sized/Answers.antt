-- `run_sized` meets its contract: there is room for the look-ups of the table, so they are built, and the run over them tells its judgement.
use Rattle.judge.proofs.Looking.{some_run, run_said}
use native.Mathlib.Omega.{arith}
use lib.ListN.{length-replicate}
use Prim.Native.Nat.{ℕ}
use Rattle.judge.proofs.ready.run_sized.Goals as goal

pub whole_as_slice-look_ups : goal.whole_as_slice-look_ups
whole_as_slice-look_ups g c = omega (arith, c.requires.small)

pub whole_as_slice-look_ups-2 : goal.whole_as_slice-look_ups-2
whole_as_slice-look_ups-2 g c = omega (arith, c.requires.small)

pub shared_whole_as_slice-rows : goal.shared_whole_as_slice-rows
shared_whole_as_slice-rows g c = omega (arith, c.requires.small)

pub shared_whole_as_slice-rows-2 : goal.shared_whole_as_slice-rows-2
shared_whole_as_slice-rows-2 g c = omega (arith, c.requires.small)

pub run-requires : goal.run-requires
run-requires g c =
    let a = length-replicate {A = ℕ} g.row.ENTRIES 0 in
    let b = length-replicate {A = ℕ} g.row.TARGETS 0 in
    some_run _ c.requires.ready (simp (a, b) c.requires.roomy) c.look_ups.ensures

pub returns : goal.returns
returns g c =
    let a = length-replicate {A = ℕ} g.row.ENTRIES 0 in
    let b = length-replicate {A = ℕ} g.row.TARGETS 0 in
    run_said _ c.requires.ready (simp (a, b) c.requires.roomy) c.look_ups.ensures c.run.result c.run.ensures
