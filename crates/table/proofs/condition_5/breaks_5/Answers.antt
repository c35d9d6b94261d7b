use mathlib.Core.Path.{refl}
use borrow.Author.Count.{below_none, below_more}
use Rattle.table.proofs.Marks.{marks_start, marks-step}
use Rattle.table.proofs.Spotted.{spots_none, spots_next}
use Rattle.table.proofs.condition_5.breaks_5.Goals as goal

pub loop-s-init : goal.loop-s-init
loop-s-init c = record { kept = below_none _; spots = λ l. spots_none; marks = marks_start }

pub loop-s-preserved : goal.loop-s-preserved
loop-s-preserved c =
    let b = c.if-not-keeps_5.false in
    let k = c.keeps_5.ensures in
    record {
      kept = below_more _ _ c.loop-s.invariant.kept (k.tells.holds b);
      spots = λ g. spots_next c.args.t.now.table.now.states_held g refl (k.spots b);
      marks = marks-step (k.marks b);
    }
