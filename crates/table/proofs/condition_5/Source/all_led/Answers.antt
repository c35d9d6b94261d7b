use native.Mathlib.Omega.{arith}
use mathlib.Core.Path.{refl, sym, subst}
use borrow.Author.Count.{below_more}
use Rattle.theory.specs.Table.{Go, state_at, count}
use Rattle.lines.specs.Ranges.{GoIn}
use Rattle.table.specs.Condition5.{Led, MetIn}
use Rattle.table.specs.Items.Held.{go_walk_here, go_walk_on}
use Rattle.table.specs.NotedTable.{table_of}
use Rattle.table.specs.Places.{no_go}
use Rattle.table.proofs.Every.{every_no, every_here, every_yes}
use Rattle.table.proofs.Marks.{marks_more, marks_all}
use Rattle.table.proofs.SetsNoted.{numbers_in}
use Rattle.table.proofs.condition_5.Source.all_led.Goals as goal

pub led-requires : goal.led-requires
led-requires c =
    let S = c.args.self.now in
    let t = table_of S.noted.now in
    let h = go_walk_here S.noted.now.table.now.states_held S.s S.here c.loop.invariant.walk c.loop-test.true in
    record { inside = h.inside; within = subst (GoIn t.grammar (count t)) (sym h.same) h.within; same = refl }

pub returns-then-not-led-clause-tells : goal.returns-then-not-led-clause-tells
returns-then-not-led-clause-tells c =
    let S = c.args.self.now in
    let t = table_of S.noted.now in
    let w = c.loop.invariant.walk in
    let n = w.counted in
    let l = c.loop-test.true in
    let h = go_walk_here S.noted.now.table.now.states_held S.s S.here w l in
    every_no (Led t S.s) (state_at t S.s).gos no_go c.loop.counter (omega arith) h.same
    c.led.ensures.tells c.if-not-led.true

pub overflow_add-at : goal.overflow_add-at
overflow_add-at c =
    let S = c.args.self.now in
    let H = S.noted.now.table.now.states_held in
    let h = (go_walk_here H S.s S.here c.loop.invariant.walk c.loop-test.true).inside in
    let m = numbers_in _ H.in_range in
    omega arith

pub loop-preserved : goal.loop-preserved
loop-preserved c =
    let S = c.args.self.now in
    let t = table_of S.noted.now in
    let gos = (state_at t S.s).gos in
    let L = c.loop.invariant in
    let l = c.loop-test.true in
    let h = go_walk_here S.noted.now.table.now.states_held S.s S.here L.walk l in
    let b = c.if-not-led.false in
    record {
      walk = go_walk_on L.walk l;
      led = below_more _ _ L.led (every_here (Led t S.s) gos no_go c.loop.counter h.same c.led.ensures.tells b);
      marked = marks_more (λ (g : Go). MetIn t S.s g.to) gos no_go c.loop.counter h.same L.marked
          (c.led.ensures.marked_at b);
    }

pub returns : goal.returns
returns c =
    let S = c.args.self.now in
    let t = table_of S.noted.now in
    let gos = (state_at t S.s).gos in
    let L = c.loop.invariant in
    let n = L.walk.counted in
    let p = L.walk.passed in
    let l = c.loop-test.false in
    record {
      tells = every_yes (Led t S.s) gos no_go c.loop.counter (omega arith) L.led;
      marked_at = λ z. marks_all (λ (g : Go). MetIn t S.s g.to) gos no_go c.loop.counter (omega arith) L.marked;
    }
