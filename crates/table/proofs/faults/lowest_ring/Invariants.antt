-- `faults::lowest_ring` meets its contract: the loop keeps that no nonterminal passed is on a ring.
use Prim.Native.Nat.{ℕ, ◌<◌}
use Rattle.theory.specs.Grammar.{UnitTo}
use Rattle.table.specs.Places.{grammar_in}
use Rattle.table.specs.Notions.{nonterm}
use Rattle.table.proofs.faults.lowest_ring.Given as goal

abbrev pub invariant-loop-k : goal.invariant-loop-k
invariant-loop-k l = ((j : ℕ) → j < l.k → UnitTo (grammar_in l.t.numbers.now) (nonterm (grammar_in l.t.numbers.now) j) (nonterm (grammar_in l.t.numbers.now) j) → ⊥)
