-- `condition_1::some_moved` meets its contract: the test of an item tells whether its dot is above 0.
use Prim.Native.Nat.{◌≤◌}
use native.Mathlib.Omega.{arith}
use mathlib.Core.Path.{◌≡◌, refl, subst}
use Rattle.std.proofs.Common.{rules, tests}
use Rattle.theory.specs.Table.{state_at}
use Rattle.table.specs.Items.Held.{item_here}
use Rattle.table.specs.Members.{some_or_each}
use Rattle.table.specs.Places.{table_in, no_item}
use Rattle.table.specs.Tests.Tell.{tells_found}
use Rattle.table.proofs.condition_1.some_moved.Goals as goal

pub returns : goal.returns
returns c =
    let is = (state_at (table_in c.args.t.now.numbers.now) c.args.s).items in
    let here = item_here c.args.t.now.states_held c.args.s c.requires in
    tells_found _
    (some_or_each is no_item (λ i. 1 ≤ i.dot) (λ i. i.dot ≡ 0) _ c.some_item.ensures
    (λ k l p. subst (λ i. 1 ≤ i.dot) (here k l _ refl).same (search (rules, tests)))
    (λ k l p. subst (λ i. i.dot ≡ 0) (here k l _ refl).same (search (rules, tests))))
    (λ (i, m, moved) still. let e = still i m in omega arith)
