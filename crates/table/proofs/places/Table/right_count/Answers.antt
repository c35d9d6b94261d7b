-- `places::right_count` meets its contract: the count at the rule's place, without the left side.
use native.Mathlib.Omega.{arith}
use Rattle.table.specs.Places.Step.{held_rule, held_rules}
use Rattle.table.proofs.places.Table.right_count.Goals as goal

pub bounds-self-r : goal.bounds-self-r
bounds-self-r c = let h = held_rules c.args.self.now.rules_held in let l = c.requires in omega arith

pub offset_bounds-self-r : goal.offset_bounds-self-r
offset_bounds-self-r c = let h = held_rules c.args.self.now.rules_held in let l = c.requires in omega arith

pub number-requires : goal.number-requires
number-requires c = let h = held_rule c.args.self.now.rules_held c.args.r c.requires c.from-p.result c.from-p.ensures in let i = h.inside in omega arith

pub overflow_sub-result : goal.overflow_sub-result
overflow_sub-result c = let h = held_rule c.args.self.now.rules_held c.args.r c.requires c.from-p.result c.from-p.ensures in let e = c.number.ensures in let n = h.counted in omega arith

pub returns : goal.returns
returns c = let h = held_rule c.args.self.now.rules_held c.args.r c.requires c.from-p.result c.from-p.ensures in let e = c.number.ensures in let n = h.counted in omega arith
