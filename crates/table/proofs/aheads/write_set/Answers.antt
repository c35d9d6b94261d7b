-- `write_set` meets its contract: past the end of the sets nothing is written.
use Prim.Native.Nat.{◌/◌}
use native.Mathlib.Omega.{arith}
use mathlib.Core.Path.{sym}
use lib.Seq.{set_out}
use Rattle.table.proofs.aheads.write_set.Goals as goal

pub returns-else-place-sets : goal.returns-else-place-sets
returns-else-place-sets c = let a = c.args in let l = c.if-place-sets.false in sym (set_out a.sets.now (a.at / 4) a.made (omega arith))
