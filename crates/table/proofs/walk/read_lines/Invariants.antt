-- `walk::read_lines` meets its contract: the loop keeps what is known of the lines walked over, all of them before the states'.
use Prim.Native.Nat.{◌-◌, ◌≤◌}
use lib.ListN.{length}
use Rattle.lines.specs.Limits.{max_numbers}
use Rattle.table.specs.Walk.{Walked}
use Rattle.table.proofs.Heading.{Heading}
use Rattle.table.proofs.walk.read_lines.Given as goal

abbrev pub invariant-loop-numbers : goal.invariant-loop-numbers
invariant-loop-numbers l = (length l.table ≤ max_numbers) × Walked l.table l.at l.line l.s l.lengths l.rule_at l.state_at × Heading l.s

abbrev pub decreases-loop-numbers : goal.decreases-loop-numbers
decreases-loop-numbers l = length l.table - l.at
