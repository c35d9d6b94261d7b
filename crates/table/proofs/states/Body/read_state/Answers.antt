-- `Body::read_state` meets its contract: its own line, its items and its go lines are read one after the other.
use native.Mathlib.Omega.{arith}
use mathlib.Core.Path.{◌∙◌, sym, subst}
use Rattle.std.proofs.lemmas.Result.{err_from_is_err_and}
use Rattle.table.specs.States.{LineOf}
use Rattle.table.proofs.LineLaws.{err_given}
use Rattle.table.proofs.StatesRead.{state_line, state_missing, state_unfit, items-stop, by-gos}
use Rattle.table.proofs.states.Body.read_state.Goals as goal

pub returns-in_err-numbers : goal.returns-in_err-numbers
returns-in_err-numbers c =
    let r = err_from_is_err_and c.from_residual.result c.from_residual.ensures.1 in
    let n = c.in_err-numbers.ensures in
    rw (r.1, r.2, err_given n.value n.ok_part)
    (state_missing c.args.self.now.sizes c.args.from c.args.self.now.within.few (subst (LineOf c.args.self.now.numbers.now c.args.from.at) n.ok_part c.line_at.ensures))

pub returns-then-not-fits_state : goal.returns-then-not-fits_state
returns-then-not-fits_state c = let (w, q) = subst (LineOf c.args.self.now.numbers.now c.args.from.at) c.in_ok-numbers.ensures.ok_part c.line_at.ensures in
    state_unfit c.args.self.now.sizes c.args.from c.args.self.now.within.few w _ q (sym c.fits_state.ensures ∙ c.if-not-fits_state.true)

pub bounds-numbers-0 : goal.bounds-numbers-0
bounds-numbers-0 c = let (w, q) = subst (LineOf c.args.self.now.numbers.now c.args.from.at) c.in_ok-numbers.ensures.ok_part c.line_at.ensures in
    let l = (state_line w _ q (sym c.fits_state.ensures ∙ c.if-not-fits_state.false)).two in
    omega arith

pub bounds-numbers-1 : goal.bounds-numbers-1
bounds-numbers-1 c = let (w, q) = subst (LineOf c.args.self.now.numbers.now c.args.from.at) c.in_ok-numbers.ensures.ok_part c.line_at.ensures in
    let l = (state_line w _ q (sym c.fits_state.ensures ∙ c.if-not-fits_state.false)).two in
    omega arith

pub read_items-requires : goal.read_items-requires
read_items-requires c = let (w, q) = subst (LineOf c.args.self.now.numbers.now c.args.from.at) c.in_ok-numbers.ensures.ok_part c.line_at.ensures in
    let l = (state_line w _ q (sym c.fits_state.ensures ∙ c.if-not-fits_state.false)).inside in
    let e = c.requires.counted in
    record { inside = omega arith; counted = omega arith }

pub returns-in_err-after : goal.returns-in_err-after
returns-in_err-after c = let (w, q) = subst (LineOf c.args.self.now.numbers.now c.args.from.at) c.in_ok-numbers.ensures.ok_part c.line_at.ensures in
    let f = sym c.fits_state.ensures ∙ c.if-not-fits_state.false in
    let p = err_from_is_err_and c.from_residual-in_err-after.result c.from_residual-in_err-after.ensures.1 in
    rw (p.1, p.2) (items-stop c.args.self.now.sizes c.args.from w _ q f c.from-items.ensures c.from-gos.ensures c.in_err-after.ensures)

pub returns : goal.returns
returns c = let (w, q) = subst (LineOf c.args.self.now.numbers.now c.args.from.at) c.in_ok-numbers.ensures.ok_part c.line_at.ensures in
    let f = sym c.fits_state.ensures ∙ c.if-not-fits_state.false in
    let (r, n, g, s) = c.in_ok-after.ensures in
    by-gos c.args.self.now.sizes c.args.from w _ q f c.from-items.ensures c.from-gos.ensures g s r c.read_gos.result c.read_gos.ensures
