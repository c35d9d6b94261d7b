-- `condition_1::keeps_1` meets its contract: the tests of the parts tell the condition, and state 0 has a first item.
use native.Mathlib.Omega.{arith}
use mathlib.Core.Path.{◌∙◌, ap, refl}
use Rattle.theory.specs.Table.{Item}
use Rattle.table.specs.Tests.Tell.{refutes}
use Rattle.table.specs.Items.Held.{state_in, walk_first, walk_here}
use Rattle.table.proofs.Kernel.{kernel_first}
use Rattle.table.proofs.condition_1.keeps_1.Goals as goal

pub item_rule-requires : goal.item_rule-requires
item_rule-requires c =
    let H = c.args.t.now.states_held in
    let some = (state_in H c.args.s c.requires).item_count.0 in
    (walk_here H c.args.s c.requires (walk_first refl c.first_item.ensures) (omega arith)).held

pub returns-then-not-some_moved : goal.returns-then-not-some_moved
returns-then-not-some_moved c =
    let H = c.args.t.now.states_held in
    let some = (state_in H c.args.s c.requires).item_count.0 in
    let here = walk_here H c.args.s c.requires (walk_first refl c.first_item.ensures) (omega arith) in
    kernel_first c.if-s-eq0.true some (c.accepts_end.ensures.holds c.if-accepts_end.true)
    (refutes c.some_moved.ensures c.if-not-some_moved.true)
    (c.item_rule.ensures ∙ ap (λ (i : Item). i.rule) here.same) H.rules_are
