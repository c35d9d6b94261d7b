-- The loop of `condition_2::breaks_2` goes on from a state that keeps the condition, whose places are noted.
use mathlib.Core.Path.{refl}
use borrow.Author.Count.{below_none, below_more}
use Rattle.table.proofs.Spotted.{spots_none, spots_next}
use Rattle.table.proofs.condition_2.breaks_2.Goals as goal

pub loop-s-init : goal.loop-s-init
loop-s-init c = (below_none _, λ l. spots_none)

pub loop-s-preserved : goal.loop-s-preserved
loop-s-preserved c =
    let kept = c.if-not-note_items.false in (
      below_more _ _ c.loop-s.invariant.0 (c.note_items.ensures.tells.holds kept),
      λ l. spots_next c.args.t.now.states_held l refl (c.note_items.ensures.spots kept),
    )
