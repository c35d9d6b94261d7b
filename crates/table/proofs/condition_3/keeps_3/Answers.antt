-- `condition_3::keeps_3` meets its contract: an item that is not called for refutes it, and the set grows by each
-- item's nonterminal.
use Prim.Native.Nat.{ℕ, ◌+◌}
use native.Mathlib.Omega.{arith}
use mathlib.Core.Path.{◌∙◌, ap, sym, subst}
use lib.ListN.{take}
use borrow.Author.Count.{below_none, below_more}
use Rattle.theory.specs.Table.{state_at}
use Rattle.table.specs.Sets.{SetOf}
use Rattle.table.specs.Items.Dot.{after_dot, after_dot-in}
use Rattle.table.specs.Conditions.Parts.{AfterSome, with_symbol}
use Rattle.table.specs.Places.Step.{held_formed, held_nonterms}
use Rattle.table.specs.Places.{grammar_in, table_in}
use Rattle.table.specs.Tests.Tell.{refutes, tells_yes, tells_no}
use Rattle.table.specs.Items.Held.{walk_held, walk_here, walk_first, walk_on}
use Rattle.table.specs.Items.{item_in}
use Rattle.table.proofs.Called.{called_tells, set-symbol, none_after, called_all, all_called}
use Rattle.table.proofs.SetOf.{set_none}
use Rattle.table.proofs.condition_3.keeps_3.Goals as goal

pub loop-k-init : goal.loop-k-init
loop-k-init c =
    let ns = c.args.t.now.numbers.now in (
      walk_first c.item_count-k-end.ensures c.first_item-at.ensures,
      set_none _ _ (none_after (grammar_in ns) (state_at (table_in ns) c.args.s).items),
      below_none _,
    )

pub called_for-requires : goal.called_for-requires
called_for-requires c = search walk_held

pub after_dot-requires : goal.after_dot-requires
after_dot-requires c = search walk_held

pub next_item-at-requires : goal.next_item-at-requires
next_item-at-requires c = search walk_held

pub with_symbol-set-requires : goal.with_symbol-set-requires
with_symbol-set-requires c =
    let H = c.args.t.now.rules_held in
    let symbol = after_dot-in (held_formed H) (item_in c.args.t.now.numbers.now c.loop-k.at) in
    let few = held_nonterms H in
    omega arith

pub returns-then-not-called_for : goal.returns-then-not-called_for
returns-then-not-called_for c =
    let t = table_in c.args.t.now.numbers.now in
    let (w, set, all) = c.loop-k.invariant in
    let k = c.loop-k.k in
    let here = walk_here c.args.t.now.states_held c.args.s c.requires w c.loop-k-test.true in
    let formed = held_formed c.args.t.now.rules_held in
    let tells = called_tells formed (state_at t c.args.s).items k set here.same c.called_for.ensures in
    tells_no (λ keeps. refutes tells c.if-not-called_for.true (all_called t c.args.s keeps k (omega arith)))

pub loop-k-preserved : goal.loop-k-preserved
loop-k-preserved c =
    let ns = c.args.t.now.numbers.now in
    let g = grammar_in ns in
    let is = (state_at (table_in ns) c.args.s).items in
    let (w, set, all) = c.loop-k.invariant in
    let t = c.loop-k-test.true in
    let k = c.loop-k.k in
    let here = walk_here c.args.t.now.states_held c.args.s c.requires w t in
    let formed = held_formed c.args.t.now.rules_held in
    let tells = called_tells formed is k set here.same c.called_for.ensures in
    let x = c.after_dot.ensures ∙ ap (after_dot g) here.same in
    let same = c.with_symbol-set.ensures ∙
    ap (λ (z : ℕ). with_symbol z c.loop-k.set c.after_dot.result) c.args.t.now.rules_held.terms_are in (
      walk_on w t here c.next_item-at.ensures,
      subst (SetOf (AfterSome g (take (k + 1) is)) g.nonterms) (sym same) (set-symbol formed is k set (omega arith) x),
      below_more _ _ all (tells.holds c.if-not-called_for.false),
    )

pub returns : goal.returns
returns c =
    let (w, set, all) = c.loop-k.invariant in
    tells_yes (called_all (table_in c.args.t.now.numbers.now) c.args.s (λ j l. all j (omega arith)))
