-- `condition_4::all_given` meets its contract: each rule's left side has a row.
use Prim.Native.Nat.{ℕ, ◌+◌, ◌<◌, ◌≤◌}
use native.Mathlib.Omega.{arith}
use Rattle.std.proofs.Common.{rules}
use Rattle.std.proofs.iter.Serving.{serving}
use Rattle.std.proofs.iter.runs.Sources.{ranges}
use Rattle.theory.specs.Table.{rule_at}
use Rattle.table.specs.Places.{grammar_in}
use Rattle.table.specs.Places.Step.{held_left, held_nonterms, held_rules}
use Rattle.table.proofs.condition_4.all_given.Goals as goal

pub all-requires-clause-callable : goal.all-requires-clause-callable
all-requires-clause-callable c =
    let t = c.args.t.now in
    let left : ℕ → ℕ = λ r. (rule_at (grammar_in t.numbers.now) r).left in
    let above : (r : ℕ) → r < t.sizes.rules → t.sizes.terms < left r = λ r l. (held_left t.rules_held r l).0 in
    let below : (r : ℕ) → r < t.sizes.rules → left r ≤ t.sizes.terms + t.sizes.nonterms =
    λ r l. (held_left t.rules_held r l).1 in
    let n = held_nonterms t.rules_held in
    let m = held_rules t.rules_held in
    grind (serving, arith, above, below)

pub returns : goal.returns
returns c = search (rules, ranges)
