-- `states::line_at` meets its contract: the numbers after the count, as many as it says.
use Prim.Native.Nat.{◌+◌}
use native.Mathlib.Omega.{arith}
use mathlib.Core.Path.{ap, ◌∙◌}
use lib.ListN.{take}
use Rattle.lines.proofs.TestLaws.{part_rest}
use Rattle.table.proofs.LineLaws.{part_is}
use Rattle.table.proofs.states.line_at.Goals as goal

pub returns : goal.returns
returns c = let ns = c.args.table.now in
    let p = c.args.at in
    let n = c.number-n.result in
    let e = c.number-n.ensures in
    ((omega arith, omega arith), ap (take n) (part_rest (p + 1) ns) ∙ part_is ns p n e)
