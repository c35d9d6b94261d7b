-- `sets::has` meets its contract: the bit is that of the definition.
use mathlib.Core.Path.{refl}
use Rattle.table.specs.Sets.{bit}
use Rattle.table.proofs.sets.has.Goals as goal

pub returns : goal.returns
unfolding bit
returns c = refl
