-- `items::go_count` meets its contract: the state's line has the count.
use native.Mathlib.Omega.{arith}
use mathlib.Core.Path.{◌∙◌}
use Rattle.table.specs.Items.Held.{state_here}
use Rattle.table.proofs.places.Table.go_count.Goals as goal

pub overflow_add-p : goal.overflow_add-p
overflow_add-p c = let h = state_here c.args.self.now.states_held c.args.s c.requires in let i = h.inside in let e = c.from-p.ensures in omega arith

pub number-requires : goal.number-requires
number-requires c = let h = state_here c.args.self.now.states_held c.args.s c.requires in let i = h.inside in let e = c.from-p.ensures in omega arith

pub returns : goal.returns
returns c = let h = state_here c.args.self.now.states_held c.args.s c.requires in
    let e = c.from-p.ensures in
    c.number.ensures ∙ rw e h.gos_counted
