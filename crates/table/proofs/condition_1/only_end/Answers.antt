-- `condition_1::only_end` meets its contract: the line has three numbers, and the last is the end mark.
use Prim.Native.Nat.{ℕ, ◌+◌}
use native.Mathlib.Omega.{arith}
use mathlib.Core.Path.{◌≡◌, ◌∙◌, ap}
use lib.ListN.{get_or}
use Rattle.table.specs.Items.{item_in}
use Rattle.table.proofs.Kernel.{one_ahead}
use Rattle.table.proofs.condition_1.only_end.Goals as goal

pub returns-then-number-eq3 : goal.returns-then-number-eq3
returns-then-number-eq3 c =
    let ns = c.args.t.now.numbers.now in
    let n = c.requires.line.counted in
    let f = c.requires.line.at_ahead 0 (omega arith) in
    let z : c.args.at + 3 ≡ c.args.at + 3 + 0 = omega arith in
    one_ahead (item_in ns c.args.at).ahead (omega arith)
    (c.number-then-number-eq3.ensures ∙ (ap (λ (n : ℕ). get_or ns n 0) z ∙ f)) c.args.t.now.rules_held.terms_are
