use native.Mathlib.Omega.{arith}
use mathlib.Core.Path.{sym, subst}
use Rattle.table.specs.Places.Step.{held_formed}
use Rattle.table.specs.Places.{grammar_in}
use Rattle.table.specs.Notions.{nonterm, Means, Part}
use Rattle.table.specs.Sets.{SetOf}
use Rattle.table.proofs.Notions.{first_part, exact}
use Rattle.table.proofs.grammar.set_of.Goals as goal

pub first_of-set-requires : goal.first_of-set-requires
first_of-set-requires c = tt

pub round-next-requires : goal.round-next-requires
round-next-requires c = let g = grammar_in c.args.t.now.numbers.now in
    subst (Part g c.args.notion) (sym c.first_of-set.ensures) (first_part g (held_formed c.args.t.now.rules_held) c.args.notion)

pub loop-next-init : goal.loop-next-init
loop-next-init c = let g = grammar_in c.args.t.now.numbers.now in
    (subst (Part g c.args.notion) (sym c.first_of-set.ensures) (first_part g (held_formed c.args.t.now.rules_held) c.args.notion), c.round-next.ensures)

pub round-next-requires-in-loop-next : goal.round-next-requires-in-loop-next
round-next-requires-in-loop-next c = c.loop-next.invariant.1.part

pub loop-next-smaller : goal.loop-next-smaller
loop-next-smaller c = let h = c.loop-next.invariant.1.grows in
    let n = c.loop-next-test.true in
    let b = c.loop-next.invariant.1.part.below in
    omega arith

pub loop-next-preserved : goal.loop-next-preserved
loop-next-preserved c = (c.loop-next.invariant.1.part, c.round-next-in-loop-next.ensures)

pub returns : goal.returns
returns c = let g = grammar_in c.args.t.now.numbers.now in
    let H = c.args.t.now.rules_held in
    let r = H.rules_are in
    let n = c.args.notion in
    subst (λ m. SetOf (λ k. Means g n (nonterm g k)) m c.loop-next.set) (sym H.nonterms_are)
    (exact (held_formed H) c.loop-next.set n c.requires c.loop-next.invariant.0 (λ q l. c.loop-next.invariant.1.closed c.loop-next-test.false q (omega arith)))
