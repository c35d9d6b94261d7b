-- `condition_7::keeps_7` meets its contract: the loop keeps the set of the complete items passed, and that these share
-- no token.
use Prim.Native.Nat.{suc, ℕ, ◌<◌}
use lib.ListN.{take}
use Rattle.theory.specs.Table.{state_at}
use Rattle.table.specs.Items.{AtItem}
use Rattle.table.specs.Sets.{SetOf}
use Rattle.table.specs.Places.{grammar_in, table_in}
use Rattle.table.proofs.Clash.{DoneOn, Apart}
use Rattle.table.proofs.condition_7.keeps_7.Given as goal

abbrev pub invariant-loop : goal.invariant-loop
invariant-loop l =
    let ns = l.t.table.now.numbers.now in
    let is = (state_at (table_in ns) l.s).items in
    AtItem ns l.t.table.now.state_at.now l.s l.end l.counter l.at
    × SetOf (DoneOn (grammar_in ns) (take l.counter is)) (suc (grammar_in ns).terms) l.set
    × ((m : ℕ) → m < l.counter → Apart (grammar_in ns) is m)
