-- `entries::fill_states` meets its contract: the loop keeps that the columns of the states passed are written, and all else is 0.
use Prim.Native.Nat.{suc, ◌+◌}
use lib.ListN.{length}
use Rattle.theory.specs.Table.{reduce_on, goto}
use Rattle.table.specs.Places.{table_in}
use Rattle.table.specs.LookUps.Columns.{Columns}
use Rattle.table.specs.LookUps.{coded}
use Rattle.table.proofs.entries.fill_states.Given as goal

abbrev pub invariant-loop-s : goal.invariant-loop-s
invariant-loop-s l = Columns l.t.sizes.terms l.t.sizes.states (length l.initial.acts) (λ a u. coded (reduce_on (table_in l.t.numbers.now) u a)) l.s l.acts ×
    Columns (suc (l.t.sizes.terms + l.t.sizes.nonterms)) l.t.sizes.states (length l.initial.go) (λ y u. coded (goto (table_in l.t.numbers.now) u y)) l.s l.go
