use native.Mathlib.Omega.{arith}
use borrow.Author.Count.{below_none, below_more}
use Rattle.theory.specs.Table.{state_at}
use Rattle.table.specs.Condition5.{From, Back}
use Rattle.table.specs.Items.Held.{walk_here, walk_first, walk_on}
use Rattle.table.specs.NotedTable.{table_of}
use Rattle.table.specs.Places.{no_item}
use Rattle.table.proofs.Every.{every_no, every_here, every_yes}
use Rattle.table.proofs.Marks.{marks-none, marks_more, marks_all}
use Rattle.table.proofs.NotedTable.{item_noted}
use Rattle.table.proofs.condition_5.Source.all_back.Goals as goal

pub loop-init : goal.loop-init
loop-init c = record {
  walk = walk_first c.item_count-n.ensures c.first_item-at.ensures;
  back = below_none _;
  marked = marks-none _ c.told-marks (λ x (j, l, p). omega arith);
}

pub comes_back-requires-clause-item : goal.comes_back-requires-clause-item
comes_back-requires-clause-item c =
    item_noted c.args.self.now.noted.now c.args.to c.requires.target c.loop.invariant.walk c.loop-test.true

pub returns-then-not-comes_back-clause-tells : goal.returns-then-not-comes_back-clause-tells
returns-then-not-comes_back-clause-tells c =
    let S = c.args.self.now in
    let t = table_of S.noted.now in
    let w = c.loop.invariant.walk in
    let n = w.counted in
    let l = c.loop-test.true in
    let h = walk_here S.noted.now.table.now.states_held c.args.to c.requires.target w l in
    every_no (Back t S.s c.args.x) (state_at t c.args.to).items no_item c.loop.counter (omega arith) h.same
    c.comes_back.ensures c.if-not-comes_back.true

pub mark-requires : goal.mark-requires
mark-requires c =
    (item_noted c.args.self.now.noted.now c.args.to c.requires.target c.loop.invariant.walk c.loop-test.true).held

pub next_item-at-requires : goal.next_item-at-requires
next_item-at-requires c =
    (item_noted c.args.self.now.noted.now c.args.to c.requires.target c.loop.invariant.walk c.loop-test.true).held

pub loop-preserved : goal.loop-preserved
loop-preserved c =
    let S = c.args.self.now in
    let t = table_of S.noted.now in
    let is = (state_at t c.args.to).items in
    let L = c.loop.invariant in
    let l = c.loop-test.true in
    let h = walk_here S.noted.now.table.now.states_held c.args.to c.requires.target L.walk l in
    record {
      walk = walk_on L.walk l h c.next_item-at.ensures;
      back = below_more _ _ L.back
          (every_here (Back t S.s c.args.x) is no_item c.loop.counter h.same c.comes_back.ensures
          c.if-not-comes_back.false);
      marked = marks_more From is no_item c.loop.counter h.same L.marked c.mark.ensures;
    }

pub returns : goal.returns
returns c =
    let S = c.args.self.now in
    let t = table_of S.noted.now in
    let is = (state_at t c.args.to).items in
    let L = c.loop.invariant in
    let n = L.walk.counted in
    let p = L.walk.passed in
    let l = c.loop-test.false in
    record {
      tells = every_yes (Back t S.s c.args.x) is no_item c.loop.counter (omega arith) L.back;
      marked_at = λ z. marks_all From is no_item c.loop.counter (omega arith) L.marked;
    }
