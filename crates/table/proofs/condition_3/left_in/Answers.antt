-- `condition_3::left_in` meets its contract: the left side of a listed rule is a nonterminal.
use native.Mathlib.Omega.{arith}
use Rattle.table.specs.Places.Step.{held_left, held_nonterms}
use Rattle.table.proofs.condition_3.left_in.Goals as goal

pub overflow_sub-left_of : goal.overflow_sub-left_of
overflow_sub-left_of c = let left = held_left c.args.t.now.rules_held c.args.r c.if-r-t.true in omega arith

pub overflow_sub-left_of-then-r-t : goal.overflow_sub-left_of-then-r-t
overflow_sub-left_of-then-r-t c = let left = held_left c.args.t.now.rules_held c.args.r c.if-r-t.true in omega arith

pub has-requires : goal.has-requires
has-requires c =
    let H = c.args.t.now.rules_held in
    let left = held_left H c.args.r c.if-r-t.true in
    let few = held_nonterms H in
    omega arith
