use native.Mathlib.Omega.{arith}
use mathlib.Core.Path.{◌≡◌, subst}
use Rattle.table.specs.Places.{grammar_in}
use Rattle.table.specs.Notions.{GrownBy}
use Rattle.table.proofs.Notions.{grown_none, grown_more}
use Rattle.table.proofs.grammar.round.Goals as goal

pub loop-r-init : goal.loop-r-init
loop-r-init c = grown_none (grammar_in c.args.t.now.numbers.now) c.args.notion c.args.set c.requires

pub grow_by-out-requires : goal.grow_by-out-requires
grow_by-out-requires c = (c.loop-r-test.true, c.loop-r.invariant.part)

pub loop-r-preserved : goal.loop-r-preserved
loop-r-preserved c = let l = c.loop-r-test.true in
    grown_more (grammar_in c.args.t.now.numbers.now) c.args.notion c.args.set c.loop-r.invariant c.grow_by-out.ensures

pub returns : goal.returns
returns c = let g = grammar_in c.args.t.now.numbers.now in
    let l = c.loop-r-test.false in
    let e : c.loop-r.r ≡ c.args.t.now.sizes.rules = omega arith in
    subst (λ k. GrownBy g c.args.notion k c.args.set c.loop-r.out) e c.loop-r.invariant
