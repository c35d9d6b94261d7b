use Prim.Native.Nat.{◌+◌, ◌<◌}
use native.Mathlib.Omega.{arith}
use mathlib.Core.Path.{◌≡◌, sym, subst}
use Rattle.table.specs.Places.{grammar_in}
use Rattle.table.specs.Firsts.{FirstGrown}
use Rattle.table.proofs.FirstSets.{first-none, first_more, first_less}
use Rattle.table.proofs.firsts.first_round.Goals as goal
use Rattle.table.proofs.firsts.first_round.Goals.{then-first_by, else-first_by}

pub loop-r-init : goal.loop-r-init
loop-r-init c = first-none (grammar_in c.args.t.now.numbers.now) c.args.rows.now c.requires.1

pub first_by-requires : goal.first_by-requires
first_by-requires c = (c.loop-r-test.true, c.requires.0, c.loop-r.invariant.part)

pub loop-r-preserved : goal.loop-r-preserved
loop-r-preserved c = let g = grammar_in c.args.t.now.numbers.now in
    let rows = c.args.rows.now in
    let j = c.loop-r.r in
    let l = c.loop-r-test.true in
    let new = c.first_by.new.rows in
    elim c.if-first_by.branch [
      | then-first_by w ↦
          subst (FirstGrown g (λ q. q < j + 1) rows new) (sym w.grew-is)
          (first_more g rows c.loop-r.invariant
          (subst (FirstGrown g (λ q. q ≡ j) c.loop-r.rows new) w.if-first_by.true c.first_by.ensures))
      | else-first_by w ↦
          subst (FirstGrown g (λ q. q < j + 1) rows new) (sym w.grew-is)
          (first_less g rows c.loop-r.invariant
          (subst (FirstGrown g (λ q. q ≡ j) c.loop-r.rows new) w.if-first_by.false c.first_by.ensures))
    ]

pub returns : goal.returns
returns c = let g = grammar_in c.args.t.now.numbers.now in
    let l = c.loop-r-test.false in
    let e : c.loop-r.r ≡ c.args.t.now.sizes.rules = omega arith in
    subst (λ k. FirstGrown g (λ q. q < k) c.args.rows.now c.loop-r.rows c.loop-r.grew) e c.loop-r.invariant
