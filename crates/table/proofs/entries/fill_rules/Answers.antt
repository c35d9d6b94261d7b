use Prim.Native.Nat.{ℕ}
use native.Mathlib.Omega.{arith}
use mathlib.Core.Path.{◌≡◌, ◌∙◌, ap}
use lib.ListN.{length, replicate}
use borrow.Author.Rules.{rules}
use Rattle.lines.specs.Limits.{max_rules}
use Rattle.table.specs.Places.Step.{held_mem, held_left, held_terms, held_nonterms}
use Rattle.table.proofs.Columns.{row_none}
use Rattle.table.proofs.entries.fill_rules.Goals as goal

pub loop-r-init : goal.loop-r-init
loop-r-init c = let a : length c.args.lens.now ≡ max_rules = search rules in
    let b : length c.args.lefts.now ≡ max_rules = search rules in
    (row_none _ (c.fill.ensures.after (λ y e. e) ∙ ap (λ (n : ℕ). replicate n 0) a), row_none _ (c.fill-2.ensures.after (λ y e. e) ∙ ap (λ (n : ℕ). replicate n 0) b))

pub overflow_cast-lens : goal.overflow_cast-lens
overflow_cast-lens c = let H = c.args.t.now.rules_held in
    let n = (H.in_range.rules_in _ (held_mem H c.loop-r.r c.loop-r-test.true)).right_count.1 in
    let e = c.right_count.ensures in
    omega arith

pub overflow_cast-lefts : goal.overflow_cast-lefts
overflow_cast-lefts c = let H = c.args.t.now.rules_held in
    let n = (held_left H c.loop-r.r c.loop-r-test.true).1 in
    let t = held_terms H in
    let k = held_nonterms H in
    let e = c.left_of.ensures in
    omega arith
