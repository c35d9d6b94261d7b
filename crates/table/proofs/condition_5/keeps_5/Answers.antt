-- `condition_5::keeps_5` meets its contract: what the go lines and the items tell is condition 5.
use native.Mathlib.Omega.{arith}
use mathlib.Core.List.{Memᴰ as Mem}
use lib.Dec.{lit<}
use Rattle.theory.specs.Table.{Go, state_at, Condition2}
use Rattle.lines.specs.Ranges.Fitting.{ranges_fit}
use Rattle.table.specs.Items.Held.{state_in}
use Rattle.table.specs.NotedTable.{table_of}
use Rattle.table.specs.Condition5.{Led}
use Rattle.table.specs.Tests.Tell.{tells_as, tells_no, refutes}
use Rattle.table.proofs.Condition5.{moves_onward, moves_led, onward_led}
use Rattle.table.proofs.condition_5.keeps_5.Goals as goal

pub invariant_of-source : goal.invariant_of-source
invariant_of-source c =
    let e = c.args.t.now.table.now.states_held.states_are in
    let l = c.requires.here in
    let distinct : Condition2 (table_of c.args.t.now) c.args.s = c.requires.before 2 c.args.s (lit< tt) (omega arith) in
    let n = c.note_items.ensures in
    record { here = l; distinct = distinct; spotted = n.spots (n.tells.shows distinct) }

pub returns-then-all_led-clause-tells : goal.returns-then-all_led-clause-tells
returns-then-all_led-clause-tells c =
    let t = table_of c.args.t.now in
    let s = c.args.s in
    let H = c.args.t.now.table.now.states_held in
    tells_as
    (λ f. onward_led t s (ranges_fit t H.in_range)
    (λ g k. c.requires.before 1 g.to (lit< tt) ((state_in H s c.requires.here).gos_in g k).to_in) f
    (c.all_led.ensures.tells.holds c.if-all_led.true))
    (moves_onward t s) c.all_move.ensures

pub returns-else-all_led-clause-tells : goal.returns-else-all_led-clause-tells
returns-else-all_led-clause-tells c =
    let t = table_of c.args.t.now in
    let s = c.args.s in
    let e = c.args.t.now.table.now.states_held.states_are in
    let l = c.requires.here in
    let f = c.if-all_led.false in
    rw f (tells_no (λ h. refutes {P = (l : Go) → Mem l (state_at t s).gos → Led t s l} c.all_led.ensures.tells
    f (moves_led t s (c.requires.before 1 0 (lit< tt) (omega arith)) h)))
