-- `condition_4::FirstSets::asked_set` meets its contract: the symbol next after the nonterminal, if there is
-- one, says what is asked.
use Prim.Native.Nat.{ℕ, ◌+◌}
use native.Mathlib.Omega.{arith}
use mathlib.Core.Path.{◌∙◌, sym, ap}
use Rattle.table.specs.Firsts.{first_set}
use Rattle.table.specs.NotedTable.{grammar_of, item_of}
use Rattle.table.specs.Places.Step.{held_formed}
use Rattle.table.proofs.Asked.{asks_own, asks_next, begins_set, next_none, next_some, next_symbol, symbol_below}
use Rattle.table.proofs.FirstsTold.{told_firsts}
use Rattle.table.proofs.NotedTable.{item_core}
use Rattle.table.proofs.condition_4.FirstSets.asked_set.Goals as goal

pub overflow_add-d : goal.overflow_add-d
overflow_add-d c =
    let (r, d) = item_core c.args.self.now.noted.now c.args.at c.requires.held in
    let e = c.item_dot-d.ensures in
    omega arith

pub returns-then-x-t : goal.returns-then-x-t
returns-then-x-t c = λ b (more, e).
    let t = c.args.self.now.noted.now in
    let g = grammar_of t in
    let i = item_of t c.args.at in
    let H = t.table.now.rules_held in
    let q = next_symbol g i c.item_rule-r.ensures c.item_dot-d.ensures c.symbol_at-x.ensures in
    asks_own (next_none g i e (held_formed H) (q ∙ (c.if-x-t.true ∙ H.terms_are))) c.set_at.ensures

pub begins-requires : goal.begins-requires
begins-requires c =
    let H = c.args.self.now.noted.now.table.now.rules_held in
    let t = H.terms_are in
    let m = c.requires.held.terms_in in
    let h = symbol_below H c.item_rule-r.result (c.item_dot-d.result + 1) c.symbol_at-x.ensures in
    (omega arith, omega arith)

pub returns : goal.returns
returns c = λ b (more, e).
    let S = c.args.self.now in
    let g = grammar_of S.noted.now in
    let i = item_of S.noted.now c.args.at in
    let H = S.noted.now.table.now.rules_held in
    let W = held_formed H in
    let x = c.symbol_at-x.result in
    let t = H.terms_are in
    let m = H.nonterms_are in
    let n = c.if-x-t.false in
    let q = next_symbol g i c.item_rule-r.ensures c.item_dot-d.ensures c.symbol_at-x.ensures in
    let (xs, f) = next_some g i e x q (λ z. n (z ∙ sym t)) in
    let h = symbol_below H c.item_rule-r.result (c.item_dot-d.result + 1) c.symbol_at-x.ensures in
    let s = c.begins.ensures ∙ ap (λ (k : ℕ). first_set k S.rows.now x) t in
    asks_next f
    (rw s (begins_set g S.rows.now W (told_firsts W S.reduced S.told) x (omega arith) (λ z. n (z ∙ sym t))))
