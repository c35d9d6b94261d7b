use native.Mathlib.Omega.{arith}
use mathlib.Core.Path.{sym, subst}
use borrow.Author.Count.{below_none, below_more}
use Rattle.theory.specs.Table.{Item, state_at, InState}
use Rattle.table.specs.Members.{mem_at}
use Rattle.table.specs.Condition5.{Onward}
use Rattle.table.specs.Items.Held.{walk_here, walk_first, walk_on}
use Rattle.table.specs.NotedTable.{table_of}
use Rattle.table.specs.Places.{no_item}
use Rattle.table.proofs.Every.{every_no, every_here, every_yes}
use Rattle.table.proofs.condition_5.Source.all_move.Goals as goal

pub loop-init : goal.loop-init
loop-init c = record { walk = walk_first c.item_count-n.ensures c.first_item-at.ensures; onward = below_none _ }

pub moves_on-requires : goal.moves_on-requires
moves_on-requires c =
    let S = c.args.self.now in
    let t = table_of S.noted.now in
    let w = c.loop.invariant.walk in
    let n = w.counted in
    let l = c.loop-test.true in
    let h = walk_here S.noted.now.table.now.states_held S.s S.here w l in
    record {
      held = h.held;
      here = subst (λ (i : Item). InState t S.s i) (sym h.same)
          (mem_at (state_at t S.s).items c.loop.counter no_item (omega arith));
      led = c.requires.led;
      marks = c.requires.marks;
    }

pub returns-then-not-moves_on : goal.returns-then-not-moves_on
returns-then-not-moves_on c =
    let S = c.args.self.now in
    let t = table_of S.noted.now in
    let w = c.loop.invariant.walk in
    let n = w.counted in
    let l = c.loop-test.true in
    let h = walk_here S.noted.now.table.now.states_held S.s S.here w l in
    every_no (Onward t S.s) (state_at t S.s).items no_item c.loop.counter (omega arith) h.same
    c.moves_on.ensures c.if-not-moves_on.true

pub next_item-at-requires : goal.next_item-at-requires
next_item-at-requires c =
    let S = c.args.self.now in
    (walk_here S.noted.now.table.now.states_held S.s S.here c.loop.invariant.walk c.loop-test.true).held

pub loop-preserved : goal.loop-preserved
loop-preserved c =
    let S = c.args.self.now in
    let t = table_of S.noted.now in
    let L = c.loop.invariant in
    let l = c.loop-test.true in
    let h = walk_here S.noted.now.table.now.states_held S.s S.here L.walk l in
    record {
      walk = walk_on L.walk l h c.next_item-at.ensures;
      onward = below_more _ _ L.onward
          (every_here (Onward t S.s) (state_at t S.s).items no_item c.loop.counter h.same
          c.moves_on.ensures c.if-not-moves_on.false);
    }

pub returns : goal.returns
returns c =
    let S = c.args.self.now in
    let t = table_of S.noted.now in
    let L = c.loop.invariant in
    let n = L.walk.counted in
    let l = c.loop-test.false in
    every_yes (Onward t S.s) (state_at t S.s).items no_item c.loop.counter (omega arith) L.onward
