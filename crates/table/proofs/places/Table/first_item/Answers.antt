-- `items::first_item` meets its contract: the items stand after the three numbers of the state's line.
use native.Mathlib.Omega.{arith}
use Rattle.table.specs.Items.Held.{state_here}
use Rattle.table.proofs.places.Table.first_item.Goals as goal

pub overflow_add-result : goal.overflow_add-result
overflow_add-result c = let h = state_here c.args.self.now.states_held c.args.s c.requires in let i = h.inside in let e = c.from.ensures in omega arith
