-- The loop of `condition_1::some_item` goes on from item to item, and asks the test at the place of each.
use mathlib.Core.Bool.{false}
use mathlib.Core.Path.{subst}
use borrow.Author.Count.{below_none, below_more}
use Rattle.table.specs.Items.Held.{walk_held, walk_here, walk_first, walk_on}
use Rattle.table.proofs.condition_1.some_item.Goals as goal

pub loop-init : goal.loop-init
loop-init g c = (walk_first c.item_count-end.ensures c.first_item-at.ensures, below_none _)

pub test-requires : goal.test-requires
test-requires g c = c.requires.callable c.loop.at (search walk_held)

pub next_item-at-requires : goal.next_item-at-requires
next_item-at-requires g c = search walk_held

pub loop-preserved : goal.loop-preserved
loop-preserved g c =
    let (w, all) = c.loop.invariant in
    let more = c.loop-test.true in
    let here = walk_here c.args.t.now.states_held c.args.s c.requires.state_in w more in (
      walk_on w more here c.next_item-at.ensures,
      below_more _ _ all (subst (λ at. goal.F-post g c.args.test at false) w.stands c.if-test.ensures),
    )
