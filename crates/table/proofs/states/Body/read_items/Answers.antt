use native.Mathlib.Omega.{arith}
use mathlib.Core.Path.{refl, subst}
use Rattle.std.proofs.lemmas.Result.{err_from_is_err_and}
use Rattle.table.specs.States.{LineOf, ItemRead, line_place}
use Rattle.table.proofs.LineLaws.{err_given, numbers_long, line_inside}
use Rattle.table.proofs.LinesGo.{items_start, items_more, items_none, items_unfit}
use Rattle.table.proofs.ItemSets.{item_long, sets_none, sets_more, place_next}
use Rattle.table.proofs.states.Body.read_items.Goals as goal

pub loop-done-init : goal.loop-done-init
unfolding line_place
loop-done-init c = (c.requires.inside, omega arith, items_start _ _ _ _ _, refl, sets_none _ _ _ _)

pub returns-in_err-numbers : goal.returns-in_err-numbers
returns-in_err-numbers c = let (i, o, g, p, e) = c.loop-done.invariant in
    let r = err_from_is_err_and c.from_residual.result c.from_residual.ensures.1 in
    let n = c.in_err-numbers.ensures in
    rw (r.1, r.2, err_given n.value n.ok_part)
    (items_none g c.loop-done-test.true c.args.self.now.within.few (subst (LineOf c.args.self.now.numbers.now c.loop-done.at) n.ok_part c.line_at.ensures))

pub returns-in_err-set : goal.returns-in_err-set
returns-in_err-set c = let (i, o, g, p, e) = c.loop-done.invariant in
    let r = err_from_is_err_and c.from_residual-in_err-set.result c.from_residual-in_err-set.ensures.1 in
    let n = c.in_err-set.ensures in
    let (w, q) = subst (LineOf c.args.self.now.numbers.now c.loop-done.at) c.in_ok-numbers.ensures.ok_part c.line_at.ensures in
    rw (r.1, r.2, err_given n.value n.ok_part)
    (items_unfit g c.loop-done-test.true c.args.self.now.within.few w _ q (subst (ItemRead _ _ _) n.ok_part c.read_item.ensures))

pub loop-done-preserved : goal.loop-done-preserved
loop-done-preserved c = let (i, o, g, p, e) = c.loop-done.invariant in
    let ns = c.args.self.now.numbers.now in
    let (w, q) = subst (LineOf c.args.self.now.numbers.now c.loop-done.at) c.in_ok-numbers.ensures.ok_part c.line_at.ensures in
    let (f, set) = subst (ItemRead _ _ _) c.in_ok-set.ensures.ok_part c.read_item.ensures in
    let long = item_long _ _ _ f in (
      line_inside ns c.loop-done.at w q,
      omega arith,
      items_more g c.loop-done-test.true w _ q f,
      place_next _ _ _ _ _ p (numbers_long ns c.loop-done.at w q),
      sets_more e p (omega arith) _ long q set c.write_set.ensures,
    )
