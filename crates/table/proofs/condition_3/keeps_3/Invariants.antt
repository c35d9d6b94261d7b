-- `condition_3::keeps_3` meets its contract: the loop keeps the set of the nonterminals after the dots passed, and that
-- each item passed was called for.
use Prim.Native.Nat.{ℕ, ◌<◌}
use lib.ListN.{take}
use Rattle.theory.specs.Table.{state_at}
use Rattle.table.specs.Sets.{SetOf}
use Rattle.table.specs.Conditions.Parts.{AfterSome}
use Rattle.table.specs.Places.{grammar_in, table_in}
use Rattle.table.specs.Items.{AtItem}
use Rattle.table.proofs.Called.{CalledBy}
use Rattle.table.proofs.condition_3.keeps_3.Given as goal

abbrev pub invariant-loop-k : goal.invariant-loop-k
invariant-loop-k l = AtItem l.t.numbers.now l.t.state_at.now l.s l.k-end l.k l.at
    × SetOf (AfterSome (grammar_in l.t.numbers.now) (take l.k (state_at (table_in l.t.numbers.now) l.s).items))
    (grammar_in l.t.numbers.now).nonterms l.set
    × ((m : ℕ) → m < l.k →
    CalledBy (grammar_in l.t.numbers.now) l.s (state_at (table_in l.t.numbers.now) l.s).items m)
