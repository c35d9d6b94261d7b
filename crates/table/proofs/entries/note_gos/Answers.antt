use native.Mathlib.Omega.{arith}
use Rattle.theory.specs.Table.{state_at}
use Rattle.table.specs.Places.{table_in, no_go}
use Rattle.table.specs.Items.Held.{go_walk_here, go_walk_first, go_walk_on}
use Rattle.table.proofs.Columns.{walk_none, walk_more, walk_all}
use Rattle.table.proofs.Actions.{by_go, state_gos, on_place, place_small, to_small, note_go}
use Rattle.table.proofs.entries.note_gos.Goals as goal

pub loop-k-init : goal.loop-k-init
loop-k-init c = (go_walk_first c.go_count-n.ensures c.first_go-at.ensures, walk_none _ _ _ by_go (state_at (table_in c.args.t.now.numbers.now) c.args.s).gos no_go _)

pub overflow_mul-y : goal.overflow_mul-y
overflow_mul-y c = let p = place_small c.args.t.now.states_held c.requires.0 (go_walk_here c.args.t.now.states_held c.args.s c.requires.0 c.loop-k.invariant.0 c.loop-k-test.true) c.go_on-y.ensures in
    omega arith

pub overflow_add-y : goal.overflow_add-y
overflow_add-y c = let p = place_small c.args.t.now.states_held c.requires.0 (go_walk_here c.args.t.now.states_held c.args.s c.requires.0 c.loop-k.invariant.0 c.loop-k-test.true) c.go_on-y.ensures in
    omega arith

pub note-requires : goal.note-requires
note-requires c = let h = go_walk_here c.args.t.now.states_held c.args.s c.requires.0 c.loop-k.invariant.0 c.loop-k-test.true in
    let p = on_place c.args.t.now.states_held c.requires.0 h c.go_on-y.ensures in
    let n = c.loop-k.invariant.1.long in
    let g = c.requires.1 in
    (omega arith, to_small c.args.t.now.states_held c.requires.0 h c.go_to-to.ensures)

pub loop-k-preserved : goal.loop-k-preserved
loop-k-preserved c = let gos = (state_at (table_in c.args.t.now.numbers.now) c.args.s).gos in
    let (w, col) = c.loop-k.invariant in
    let t = c.loop-k-test.true in
    let n = w.counted in
    let h = go_walk_here c.args.t.now.states_held c.args.s c.requires.0 w t in
    (go_walk_on w t, walk_more _ _ _ by_go gos no_go (omega arith) col (note_go c.args.t.now.states_held c.requires.0 h c.go_on-y.ensures c.go_to-to.ensures (let l = col.long in let g = c.requires.1 in omega arith) c.note.ensures))

pub returns : goal.returns
returns c = let gos = (state_at (table_in c.args.t.now.numbers.now) c.args.s).gos in
    let (w, col) = c.loop-k.invariant in
    let n = w.counted in
    let p = w.passed in
    let t = c.loop-k-test.false in
    walk_all _ _ _ by_go gos no_go c.loop-k._k (omega arith) _ (state_gos (table_in c.args.t.now.numbers.now) c.args.s) col
