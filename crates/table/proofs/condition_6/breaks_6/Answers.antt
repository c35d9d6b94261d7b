-- The loop of `condition_6::breaks_6` goes on from a marked state to the next.
use native.Mathlib.Omega.{arith}
use borrow.Author.Count.{below_none, below_more}
use Rattle.table.specs.Places.{table_in}
use Rattle.table.proofs.Led.{led_first, led_more, led_tells}
use Rattle.table.proofs.condition_6.breaks_6.Goals as goal

pub loop-s-init : goal.loop-s-init
loop-s-init c = (led_first (table_in c.args.t.now.numbers.now), below_none _)

pub loop-s-preserved : goal.loop-s-preserved
loop-s-preserved c =
    let (led, kept) = c.loop-s.invariant in
    let here = (led_tells led (omega arith)).holds c.if-not-led-s.false in
    (led_more led c.mark_targets.ensures, below_more _ _ kept here)
