-- `grammar::round` meets its contract: the loop keeps what the rules passed make of the set.
use Rattle.table.specs.Places.{grammar_in}
use Rattle.table.specs.Notions.{GrownBy}
use Rattle.table.proofs.grammar.round.Given as goal

abbrev pub invariant-loop-r : goal.invariant-loop-r
invariant-loop-r l = GrownBy (grammar_in l.t.numbers.now) l.notion l.r l.set l.out
