-- `grammar::with_right` meets its contract: the loop keeps that the set is a part and has the nonterminals passed.
use Rattle.theory.specs.Table.{rule_at}
use Rattle.table.specs.Places.{grammar_in}
use Rattle.table.proofs.Notions.{Reaching}
use Rattle.table.proofs.grammar.with_right.Given as goal

abbrev pub invariant-loop-j : goal.invariant-loop-j
invariant-loop-j l = Reaching (grammar_in l.t.numbers.now) (rule_at (grammar_in l.t.numbers.now) l.r).right l.set l.out l.j
