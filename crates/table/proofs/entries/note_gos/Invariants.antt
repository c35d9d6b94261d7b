-- `entries::note_gos` meets its contract: the loop keeps that the column has the first of what the go lines passed are worth.
use Prim.Native.Nat.{suc, ◌+◌}
use lib.ListN.{take}
use Rattle.theory.specs.Table.{state_at}
use Rattle.table.specs.Places.{table_in}
use Rattle.table.specs.LookUps.Columns.{Column}
use Rattle.table.specs.Items.{AtGo}
use Rattle.table.proofs.Columns.{firsts}
use Rattle.table.proofs.Actions.{by_go}
use Rattle.table.proofs.entries.note_gos.Given as goal

abbrev pub invariant-loop-k : goal.invariant-loop-k
invariant-loop-k l = AtGo l.t.numbers.now l.t.state_at.now l.s l.n l._k l.at × Column (suc (l.t.sizes.terms + l.t.sizes.nonterms)) l.t.sizes.states l.s (λ y. firsts (by_go y) (take l._k (state_at (table_in l.t.numbers.now) l.s).gos)) l.initial.go l.go
