-- `places::left_of` meets its contract: the place of the rule is looked up, and the number after the count is read.
use native.Mathlib.Omega.{arith}
use mathlib.Core.Path.{◌∙◌}
use Rattle.table.specs.Places.Step.{held_rule, held_rules}
use Rattle.table.proofs.places.Table.left_of.Goals as goal

pub bounds-self-r : goal.bounds-self-r
bounds-self-r c = let h = held_rules c.args.self.now.rules_held in let l = c.requires in omega arith

pub offset_bounds-self-r : goal.offset_bounds-self-r
offset_bounds-self-r c = let h = held_rules c.args.self.now.rules_held in let l = c.requires in omega arith

pub overflow_add-p : goal.overflow_add-p
overflow_add-p c = let h = held_rule c.args.self.now.rules_held c.args.r c.requires c.from-p.result c.from-p.ensures in let i = h.inside in omega arith

pub number-requires : goal.number-requires
number-requires c = let h = held_rule c.args.self.now.rules_held c.args.r c.requires c.from-p.result c.from-p.ensures in let i = h.inside in omega arith

pub returns : goal.returns
returns c = let h = held_rule c.args.self.now.rules_held c.args.r c.requires c.from-p.result c.from-p.ensures in c.number.ensures ∙ h.left_at
