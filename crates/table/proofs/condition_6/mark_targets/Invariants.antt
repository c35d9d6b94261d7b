-- `condition_6::mark_targets` meets its contract: the loop keeps that the targets passed are marked.
use lib.ListN.{take}
use Rattle.theory.specs.Table.{state_at}
use Rattle.table.specs.Conditions.Parts.{Marked}
use Rattle.table.specs.Items.{AtGo}
use Rattle.table.specs.Places.{table_in}
use Rattle.table.proofs.condition_6.mark_targets.Given as goal

abbrev pub invariant-loop : goal.invariant-loop
invariant-loop l = AtGo l.t.numbers.now l.t.state_at.now l.s l.end l.counter l.at
    × Marked (take l.counter (state_at (table_in l.t.numbers.now) l.s).gos) l.initial.led l.led
