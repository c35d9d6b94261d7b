-- `places::right_symbol` meets its contract: the number j places after the left side.
use native.Mathlib.Omega.{arith}
use mathlib.Core.Path.{◌∙◌}
use Rattle.table.specs.Places.Step.{held_rule, held_rules}
use Rattle.table.proofs.places.Table.right_symbol.Goals as goal

pub bounds-self-r : goal.bounds-self-r
bounds-self-r c = let h = held_rules c.args.self.now.rules_held in let l = c.requires.0 in omega arith

pub offset_bounds-self-r : goal.offset_bounds-self-r
offset_bounds-self-r c = let h = held_rules c.args.self.now.rules_held in let l = c.requires.0 in omega arith

pub overflow_add-p : goal.overflow_add-p
overflow_add-p c = let h = held_rule c.args.self.now.rules_held c.args.r c.requires.0 c.from-p.result c.from-p.ensures in let i = h.inside in omega arith

pub overflow_add-p-2 : goal.overflow_add-p-2
overflow_add-p-2 c = let h = held_rule c.args.self.now.rules_held c.args.r c.requires.0 c.from-p.result c.from-p.ensures in let i = h.inside in let j = c.requires.1 in omega arith

pub number-requires : goal.number-requires
number-requires c = let h = held_rule c.args.self.now.rules_held c.args.r c.requires.0 c.from-p.result c.from-p.ensures in let i = h.inside in let j = c.requires.1 in omega arith

pub returns : goal.returns
returns c = let h = held_rule c.args.self.now.rules_held c.args.r c.requires.0 c.from-p.result c.from-p.ensures in c.number.ensures ∙ h.right_at c.args.j c.requires.1
