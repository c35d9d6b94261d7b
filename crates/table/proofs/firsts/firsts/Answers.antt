use Prim.Native.Nat.{◌<◌}
use native.Mathlib.Omega.{arith}
use mathlib.Core.Bool.{false≢true}
use mathlib.Core.Path.{sym, subst}
use Rattle.theory.specs.Table.{rule_at}
use Rattle.table.specs.Places.Step.{held_formed, held_nonterms}
use Rattle.table.specs.Places.{grammar_in}
use Rattle.table.specs.Firsts.{FirstClosed}
use Rattle.table.proofs.FirstSets.{first_empty, first_exact, left, left-falls}
use Rattle.table.proofs.firsts.firsts.Goals as goal

pub loop-grew-init : goal.loop-grew-init
loop-grew-init c = (first_empty (grammar_in c.args.t.now.numbers.now), λ e. absurd (false≢true (sym e)))

pub first_round-grew-requires : goal.first_round-grew-requires
first_round-grew-requires c = (c.requires, c.loop-grew.invariant.0)

pub loop-grew-smaller : goal.loop-grew-smaller
loop-grew-smaller c = let g = grammar_in c.args.t.now.numbers.now in
    let new = c.first_round-grew.new.rows in
    subst (λ b. left g new c.first_round-grew.result < left g c.loop-grew.rows b) (sym c.loop-grew-test.true)
    (left-falls g _ c.loop-grew.rows new c.first_round-grew.result c.loop-grew.invariant.0 c.first_round-grew.ensures)

pub loop-grew-preserved : goal.loop-grew-preserved
loop-grew-preserved c = let g = grammar_in c.args.t.now.numbers.now in
    (c.first_round-grew.ensures.part, λ e q l. subst (λ rows. FirstClosed g rows (rule_at g q)) (sym (c.first_round-grew.ensures.same e)) (c.first_round-grew.ensures.closed e q l))

pub returns : goal.returns
returns c = let g = grammar_in c.args.t.now.numbers.now in
    let H = c.args.t.now.rules_held in
    let n = held_nonterms H in
    let m = H.nonterms_are in
    let r = H.rules_are in
    first_exact g c.loop-grew.rows (held_formed H) c.loop-grew.invariant.0 (omega arith) (λ q l. c.loop-grew.invariant.1 c.loop-grew-test.false q (omega arith))
