-- `condition_4::FirstSets::note_asked` meets its contract: what the item asks goes into the row of the
-- nonterminal after its dot.
use Prim.Native.Nat.{ℕ, ◌-◌, ◌+◌, ◌≤◌}
use native.Mathlib.Omega.{arith}
use mathlib.Core.Path.{◌≡◌, sym}
use Rattle.lines.specs.Limits.{max_nonterms}
use Rattle.table.specs.declared.aheads.Noted.{Noted}
use Rattle.table.specs.Items.Dot.{after_dot, after_of}
use Rattle.table.specs.NotedTable.{grammar_of, item_of}
use Rattle.table.proofs.Noted.{asked_joined, asked_skipped}
use Rattle.table.proofs.Asked.{symbol_below}
use Rattle.table.proofs.condition_4.FirstSets.note_asked.Goals as goal

-- the symbol after the dot is no higher than the last nonterminal
after_below : (t : Noted) (at : ℕ) {x : ℕ} → x ≡ after_dot (grammar_of t) (item_of t at) →
    (x ≤ t.table.now.sizes.terms + t.table.now.sizes.nonterms) × (t.table.now.sizes.nonterms ≤ max_nonterms)
after_below t at e = symbol_below t.table.now.rules_held (item_of t at).rule (item_of t at).dot e

pub offset_bounds-asked-b : goal.offset_bounds-asked-b
offset_bounds-asked-b c = let h = after_below c.args.self.now.noted.now c.args.at c.after_dot-x.ensures in omega arith

pub bounds-asked-b : goal.bounds-asked-b
bounds-asked-b c = let h = after_below c.args.self.now.noted.now c.args.at c.after_dot-x.ensures in omega arith

pub bounds-asked-b-then-t-x : goal.bounds-asked-b-then-t-x
bounds-asked-b-then-t-x c = let h = after_below c.args.self.now.noted.now c.args.at c.after_dot-x.ensures in omega arith

pub returns-then-t-x : goal.returns-then-t-x
returns-then-t-x c =
    let t = c.args.self.now.noted.now in
    let g = grammar_of t in
    let i = item_of t c.args.at in
    let x = c.after_dot-x.result in
    let e = t.table.now.rules_held.terms_are in
    let l = c.if-t-x.true in
    let h = after_below t c.args.at c.after_dot-x.ensures in
    let n = c.told-asked in
    let f = after_of g i x (sym c.after_dot-x.ensures) (λ y. omega arith) in
    asked_joined g i c.args.asked.now x (x - t.table.now.sizes.terms - 1) c.asked_set.result (_, f) (omega arith)
    (omega arith) (c.asked_set.ensures x (_, f))

pub returns-else-t-x : goal.returns-else-t-x
returns-else-t-x c =
    let t = c.args.self.now.noted.now in
    let n = t.table.now.rules_held.terms_are in
    let l = c.if-t-x.false in
    let e = c.after_dot-x.ensures in
    asked_skipped (grammar_of t) (item_of t c.args.at) c.args.asked.now (omega arith)
