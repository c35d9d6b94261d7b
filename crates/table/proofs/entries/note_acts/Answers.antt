use native.Mathlib.Omega.{arith}
use mathlib.Core.Path.{ap}
use Rattle.theory.specs.Table.{state_at}
use Rattle.table.specs.Places.{table_in, no_item}
use Rattle.table.specs.Items.Held.{walk_here, walk_first, walk_on}
use Rattle.table.proofs.Columns.{column_as, walk_none, walk_more, walk_all}
use Rattle.table.proofs.Actions.{by_item, state_items}
use Rattle.table.proofs.entries.note_acts.Goals as goal

pub loop-k-init : goal.loop-k-init
loop-k-init c = let t = table_in c.args.t.now.numbers.now in
    (walk_first c.item_count-n.ensures c.first_item-at.ensures, walk_none _ _ _ (by_item t.grammar) (state_at t c.args.s).items no_item _)

pub note_item-requires : goal.note_item-requires
note_item-requires c = let (w, col) = c.loop-k.invariant in
    let l = col.long in
    let g = c.requires.1 in
    ((walk_here c.args.t.now.states_held c.args.s c.requires.0 w c.loop-k-test.true).held, c.requires.0, omega arith)

pub next_item-at-requires : goal.next_item-at-requires
next_item-at-requires c = (walk_here c.args.t.now.states_held c.args.s c.requires.0 c.loop-k.invariant.0 c.loop-k-test.true).held

pub loop-k-preserved : goal.loop-k-preserved
loop-k-preserved c = let t = table_in c.args.t.now.numbers.now in
    let (w, col) = c.loop-k.invariant in
    let l = c.loop-k-test.true in
    let n = w.counted in
    let h = walk_here c.args.t.now.states_held c.args.s c.requires.0 w l in (
      walk_on w l h c.next_item-at.ensures,
      walk_more _ _ _ (by_item t.grammar) (state_at t c.args.s).items no_item (omega arith) col
          (column_as c.note_item.ensures (λ a j. ap (by_item t.grammar a) h.same)),
    )

pub returns : goal.returns
returns c = let t = table_in c.args.t.now.numbers.now in
    let (w, col) = c.loop-k.invariant in
    let n = w.counted in
    let p = w.passed in
    let l = c.loop-k-test.false in
    walk_all _ _ _ (by_item t.grammar) (state_at t c.args.s).items no_item c.loop-k._k (omega arith) _ (state_items t c.args.s) col
