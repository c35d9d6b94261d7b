use native.Mathlib.Omega.{arith}
use mathlib.Core.Path.{sym, subst, refl}
use Rattle.table.specs.Walk.{Walked}
use Rattle.table.proofs.Walked.{walk_is, read_over, other_state, walk_start, walk_unfit}
use Rattle.table.proofs.LineLaws.{line-broken, line-next}
use Rattle.table.proofs.Heading.{Heading, start_heading, heading_missing, next_heading, walk_states}
use Rattle.table.proofs.walk.read_lines.Goals as goal

pub returns-then-table-gt-MAX_NUMBERS-clause-reads : goal.returns-then-table-gt-MAX_NUMBERS-clause-reads
returns-then-table-gt-MAX_NUMBERS-clause-reads c = read_over c.args.table.now c.if-table-gt-MAX_NUMBERS.true

pub loop-numbers-init : goal.loop-numbers-init
loop-numbers-init c = (
  omega arith,
  subst (λ s. Walked c.args.table.now 0 0 s _ c.args.rule_at.now c.args.state_at.now) (sym c.start-s.ensures)
      (walk_start c.args.table.now _ c.args.rule_at.now c.args.state_at.now refl c.told-rule_at c.told-state_at),
  subst Heading (sym c.start-s.ensures) start_heading,
)

pub returns-in-State : goal.returns-in-State
returns-in-State c =
    let L = c.loop-numbers in
    let z = c.from in
    let r = c.read_states.ensures L.rule_at (walk_states L.invariant.1 L.invariant.2 c.in-State.is z.result z.ensures) in
    record { reads = r.0; sets_read = r.1 }

pub returns-in_default-accept : goal.returns-in_default-accept
returns-in_default-accept c =
    let L = c.loop-numbers in
    let (w, q) = c.in-Some.ensures in
    record { reads = walk_unfit L.invariant.1 w.0 L.invariant.0 w.1 _ q (sym c.in_default-accept.ensures.value); sets_read = tt }

pub loop-numbers-preserved : goal.loop-numbers-preserved
loop-numbers-preserved c =
    let L = c.loop-numbers in
    let (w, q) = c.in-Some.ensures in
    let k = c.in_default-due.not-State in
    let A = c.in-Some-accept.ensures in
    let a = sym A.value in (
      L.invariant.0,
      walk_is (line-next L.invariant.1 w _ q _ a) refl (sym c.renewed-s.ensures) (sym A.lengths_after) (sym c.note_rule.ensures) (other_state L.s L.state_at L.at k),
      subst Heading (sym c.renewed-s.ensures) (next_heading L.invariant.2 k L.lengths _ _ a),
    )

pub returns-clause-reads : goal.returns-clause-reads
returns-clause-reads c = let L = c.loop-numbers in line-broken L.invariant.1 L.invariant.0 c.in_default.ensures (heading_missing L.invariant.2)
