use native.Mathlib.Omega.{arith}
use mathlib.Core.Path.{◌≡◌, refl, sym, ◌∙◌, subst}
use Rattle.std.proofs.lemmas.Result.{err_from_is_err_and}
use Rattle.table.specs.States.{LineOf}
use Rattle.table.proofs.LineLaws.{err_given, line_inside}
use Rattle.table.proofs.LinesGo.{go_some, gos_more, gos_none, gos_unfit, gos_all}
use Rattle.table.proofs.states.Body.read_gos.Goals as goal

pub returns-in_err-numbers : goal.returns-in_err-numbers
returns-in_err-numbers c = let (i, o, g) = c.loop-done.invariant in
    let r = err_from_is_err_and c.from_residual.result c.from_residual.ensures.1 in
    let n = c.in_err-numbers.ensures in
    rw (r.1, r.2, err_given n.value n.ok_part)
    (gos_none g c.loop-done-test.true c.args.self.now.within.few (subst (LineOf c.args.self.now.numbers.now c.loop-done.at) n.ok_part c.line_at.ensures))

pub returns-then-not-fits_go : goal.returns-then-not-fits_go
returns-then-not-fits_go c = let (i, o, g) = c.loop-done.invariant in
    let (w, q) = subst (LineOf c.args.self.now.numbers.now c.loop-done.at) c.in_ok-numbers.ensures.ok_part c.line_at.ensures in
    gos_unfit g c.loop-done-test.true c.args.self.now.within.few w _ q (sym c.fits_go.ensures ∙ c.if-not-fits_go.true)

pub bounds-numbers-0 : goal.bounds-numbers-0
bounds-numbers-0 c = let l = go_some _ _ _ _ _ (sym c.fits_go.ensures ∙ c.if-not-fits_go.false) in omega arith

pub loop-done-preserved : goal.loop-done-preserved
loop-done-preserved c = let (i, o, g) = c.loop-done.invariant in
    let ns = c.args.self.now.numbers.now in
    let (w, q) = subst (LineOf c.args.self.now.numbers.now c.loop-done.at) c.in_ok-numbers.ensures.ok_part c.line_at.ensures in
    let x = c.from-above.ensures in (
      line_inside ns c.loop-done.at w q,
      omega arith,
      gos_more g c.loop-done-test.true w _ q (sym c.fits_go.ensures ∙ c.if-not-fits_go.false) _ (omega arith),
    )

pub returns : goal.returns
returns c = let (i, o, g) = c.loop-done.invariant in
    let l = c.requires.counted in
    let q : c.loop-done.done ≡ c.args.count = omega arith in
    (record { inside = record { inside = i; counted = omega arith }; lines = omega arith; past = omega arith }, refl, λ j. gos_all g q _ j)
