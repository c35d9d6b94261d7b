-- `condition_5::Source::comes_back` meets its contract: where the item with the dot before is in the state, the
-- sets tell.
use Prim.Native.Nat.{ℕ, ◌-◌}
use native.Mathlib.Omega.{arith}
use mathlib.Core.Path.{◌∙◌, sym, ap}
use Rattle.table.specs.Items.Dot.{after_of}
use Rattle.table.specs.Items.Held.{state_in}
use Rattle.table.specs.Items.{Agrees}
use Rattle.table.specs.NotedTable.{table_of, item_of}
use Rattle.table.proofs.Condition5.{symbol_before, back_tells}
use Rattle.table.proofs.Inside.{set_inside}
use Rattle.table.proofs.NotedTable.{item_core}
use Rattle.table.proofs.condition_5.Source.comes_back.Goals as goal

pub set_of-requires : goal.set_of-requires
set_of-requires c =
    let (x, y) = item_core c.args.self.now.noted.now c.args.at c.requires.item.held in
    let e = c.item_rule-r.ensures in
    let f = c.item_dot-d.ensures in
    (omega arith, omega arith)

pub returns-in-Some : goal.returns-in-Some
returns-in-Some c =
    let S = c.args.self.now in
    let t = table_of S.noted.now in
    let j = item_of S.noted.now c.args.at in
    let H = S.noted.now.table.now.states_held in
    let r = c.item_rule-r.ensures in
    let d = c.item_dot-d.ensures in
    let (i, m, g, old) = c.in-Some.ensures in
    let a : Agrees j.rule (j.dot - 1) i = (g.0 ∙ r, g.1 ∙ ap (λ (n : ℕ). n - 1) d) in
    let q = sym (symbol_before t.grammar i j a r d c.symbol_at.ensures) ∙ c.if-symbol_at-x.false in
    let after = after_of t.grammar i c.args.x q (λ z. c.requires.symbol (z ∙ sym H.terms_are)) in
    back_tells t S.s c.args.x j i m a (_, after) (λ z. c.if-d-eq0.false (d ∙ z)) S.distinct
    (set_inside old c.set_at.ensures
    (λ b k. let h = ((state_in H S.s S.here).items_in i m).ahead_in b k in omega arith)
    (λ b k. let h = c.requires.item.held.within.ahead_in b k in omega arith) c.within.ensures)
