-- `condition_7::no_shift` meets its contract: the loop keeps that no go line passed is on a kind of the set.
use Prim.Native.Nat.{ℕ, ◌<◌}
use lib.ListN.{get_or}
use Rattle.theory.specs.Table.{state_at}
use Rattle.table.specs.Sets.{In}
use Rattle.table.specs.Items.{AtGo}
use Rattle.table.specs.Places.{table_in, no_go}
use Rattle.table.proofs.condition_7.no_shift.Given as goal

abbrev pub invariant-loop : goal.invariant-loop
invariant-loop l = AtGo l.t.numbers.now l.t.state_at.now l.s l.end l.counter l.at
    × ((j : ℕ) → j < l.counter →
    (get_or (state_at (table_in l.t.numbers.now) l.s).gos j no_go).on < l.t.sizes.terms →
    In l.set (get_or (state_at (table_in l.t.numbers.now) l.s).gos j no_go).on → ⊥)
