-- `condition_5::Source::moves_on` meets its contract: the item is complete, or the marks tell.
use native.Mathlib.Omega.{arith}
use mathlib.Core.Path.{◌∙◌, sym}
use Rattle.std.proofs.Common.{eq-eqb}
use lib.ListN.{get_or}
use Rattle.table.specs.Items.Held.{state_in}
use Rattle.table.specs.Items.Dot.{complete_of, after_of}
use Rattle.table.specs.NotedTable.{table_of, item_of}
use Rattle.table.specs.Places.Step.{held_formed}
use Rattle.table.specs.Spots.{core_of}
use Rattle.table.specs.Tests.Tell.{tells_yes}
use Rattle.table.proofs.Condition5.{onward_complete, onward_tells}
use Rattle.table.proofs.NotedTable.{item_core}
use Rattle.table.proofs.Spotted.{core_in}
use Rattle.table.proofs.condition_5.Source.moves_on.Goals as goal

pub returns-then-after_dot-t : goal.returns-then-after_dot-t
returns-then-after_dot-t c =
    let S = c.args.self.now in
    let i = item_of S.noted.now c.args.at in
    let H = S.noted.now.table.now.rules_held in
    let e = c.if-after_dot-t.true in
    rw (eq-eqb c.after_dot.result S.noted.now.table.now.sizes.terms e)
    (tells_yes (onward_complete (table_of S.noted.now) S.s i
    (complete_of (held_formed H) i (sym c.after_dot.ensures ∙ (e ∙ H.terms_are)))))

pub mark_at-requires : goal.mark_at-requires
mark_at-requires c =
    let (r, d) = item_core c.args.self.now.noted.now c.args.at c.requires.held in
    let e = c.item_rule.ensures in
    let f = c.item_dot.ensures in
    (omega arith, omega arith)

pub returns-else-after_dot-t : goal.returns-else-after_dot-t
returns-else-after_dot-t c =
    let S = c.args.self.now in
    let t = table_of S.noted.now in
    let i = item_of S.noted.now c.args.at in
    let H = S.noted.now.table.now.states_held in
    let x = c.after_dot.result in
    let n = H.states_are in
    let l = S.here in
    let r = c.item_rule.ensures in
    let d = c.item_dot.ensures in
    onward_tells t S.s i c.requires.here x
    (_, after_of t.grammar i x (sym c.after_dot.ensures) (λ z. c.if-after_dot-t.false (z ∙ sym H.terms_are)))
    S.distinct (item_core S.noted.now c.args.at c.requires.held)
    (λ g k j m.
    let b = ((state_in H S.s l).gos_in g k).to_in in
    (core_in t H.in_range j ((state_in H g.to (omega arith)).items_in j m)).1)
    c.requires.led c.requires.marks (c.mark_at.ensures ∙ λ k. get_or c.args.marks.now (core_of (r k) (d k)) 0)
