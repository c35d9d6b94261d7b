-- `spots::note_items` meets its contract: an item whose rule and dot were noted for this state refutes it, and the place
-- of another is noted.
use Prim.Native.Nat.{ℕ, ◌+◌, ◌≤◌, ◌<◌}
use native.Mathlib.Omega.{arith}
use mathlib.Core.Path.{◌∙◌, sym, ap, subst}
use lib.ListN.{length, get_or}
use borrow.Author.Count.{below_none, below_more}
use Rattle.theory.specs.Table.{Item, state_at}
use Rattle.table.specs.Items.Held.{walk_held, state_in, walk_here, walk_first, walk_on}
use Rattle.table.specs.Items.{item_in}
use Rattle.table.specs.Members.{mem_at}
use Rattle.table.specs.Places.{table_in, no_item}
use Rattle.table.specs.Spots.{core_of, Spots}
use Rattle.table.specs.Tests.Tell.{tells_yes, tells_no}
use Rattle.table.proofs.SetsNoted.{numbers_in}
use Rattle.table.proofs.Spotted.{core_in, spots_more, lone_spot, twice_spot}
use Rattle.table.proofs.Twice.{lone_all, all_lone}
use Rattle.table.proofs.spots.note_items.Goals as goal

pub loop-init : goal.loop-init
loop-init c = (walk_first c.item_count-end.ensures c.first_item-first.ensures, c.requires.1, below_none _)

pub item_rule-rule-requires : goal.item_rule-rule-requires
item_rule-rule-requires c = search walk_held

pub item_dot-dot-requires : goal.item_dot-dot-requires
item_dot-dot-requires c = search walk_held

pub next_item-at-requires : goal.next_item-at-requires
next_item-at-requires c = search walk_held

pub spot_of-requires : goal.spot_of-requires
spot_of-requires c =
    let ns = c.args.t.now.numbers.now in
    let H = c.args.t.now.states_held in
    let held = walk_held H c.requires.0 c.loop.invariant.0 c.loop-test.true in
    let (r, d) = core_in (table_in ns) H.in_range (item_in ns c.loop.at) held.within in
    (omega arith, omega arith)

pub note_spot-requires : goal.note_spot-requires
note_spot-requires c =
    let ns = c.args.t.now.numbers.now in
    let H = c.args.t.now.states_held in
    let held = walk_held H c.requires.0 c.loop.invariant.0 c.loop-test.true in
    let (r, d) = core_in (table_in ns) H.in_range (item_in ns c.loop.at) held.within in
    let m = numbers_in ns H.in_range in
    ((omega arith, omega arith), omega arith, c.loop.invariant.1.long)

pub returns-then-first-spot_of-clause-tells : goal.returns-then-first-spot_of-clause-tells
returns-then-first-spot_of-clause-tells c =
    let t = table_in c.args.t.now.numbers.now in
    let s = c.args.s in
    let H = c.args.t.now.states_held in
    let is = (state_at t s).items in
    let (w, spots, all) = c.loop.invariant in
    let k = c.loop.counter in
    let here = walk_here H s c.requires.0 w c.loop-test.true in
    let r = c.item_rule-rule.ensures ∙ ap (λ (i : Item). i.rule) here.same in
    let d = c.item_dot-dot.ensures ∙ ap (λ (i : Item). i.dot) here.same in
    let each : (j : ℕ) → j < length is → (get_or is j no_item).dot ≤ 8 =
    λ j l. (core_in t H.in_range _ ((state_in H s c.requires.0).items_in _ (mem_at is j no_item l))).1 in
    let b = each k (omega arith) in
    tells_no (λ kept. twice_spot spots c.spot_of.ensures r d (λ j g. each j (omega arith)) (omega arith) (omega arith)
    (all_lone t s kept k (omega arith)))

pub loop-preserved : goal.loop-preserved
loop-preserved c =
    let ns = c.args.t.now.numbers.now in
    let s = c.args.s in
    let H = c.args.t.now.states_held in
    let (w, spots, all) = c.loop.invariant in
    let k = c.loop.counter in
    let here = walk_here H s c.requires.0 w c.loop-test.true in
    let r = c.item_rule-rule.ensures ∙ ap (λ (i : Item). i.rule) here.same in
    let d = c.item_dot-dot.ensures ∙ ap (λ (i : Item). i.dot) here.same in
    let (x, y) = core_in (table_in ns) H.in_range (item_in ns c.loop.at) here.held.within in (
      walk_on w c.loop-test.true here c.next_item-at.ensures,
      subst (Spots ns c.args.t.now.state_at.now s (k + 1)) (sym c.note_spot.ensures)
          (spots_more spots (omega arith) w.stands (λ i. core_of (r i) (d i)) (omega arith)),
      below_more _ _ all (lone_spot spots c.spot_of.ensures r d (omega arith)),
    )

pub returns-clause-tells : goal.returns-clause-tells
returns-clause-tells c =
    let (w, spots, all) = c.loop.invariant in
    tells_yes (lone_all (table_in c.args.t.now.numbers.now) c.args.s (λ j l. all j (omega arith)))
