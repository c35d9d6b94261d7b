-- `sets::single` meets its contract: a one shifted is a power of two.
use native.Mathlib.Nat.{one-mul}
use native.Mathlib.Omega.{arith}
use mathlib.Core.Path.{◌∙◌}
use lib.Pow.{shl_exact}
use lib.Dec.{lit<}
use Rattle.table.proofs.sets.single.Goals as goal

pub returns : goal.returns
returns c = shl_exact 1 c.args.k 64 (lit< tt) (omega arith) ∙ one-mul _
