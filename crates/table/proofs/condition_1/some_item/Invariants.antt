-- `condition_1::some_item` meets its contract: the loop keeps that the items passed fail the test.
use Prim.Native.Nat.{ℕ, ◌<◌}
use mathlib.Core.Bool.{false}
use Rattle.table.specs.Aheads.{place_of}
use Rattle.table.specs.Items.{AtItem}
use Rattle.table.proofs.condition_1.some_item.Given as goal

abbrev pub invariant-loop : goal.invariant-loop
invariant-loop g l = AtItem l.t.numbers.now l.t.state_at.now l.s l.end l.counter l.at
    × ((j : ℕ) → j < l.counter → goal.F-post g l.test (place_of l.t.numbers.now l.t.state_at.now l.s j) false)
