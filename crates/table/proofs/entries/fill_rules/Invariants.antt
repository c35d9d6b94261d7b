-- `entries::fill_rules` meets its contract: the loop keeps that the entries of the rules passed are written, and all else is 0.
use lib.ListN.{length}
use Rattle.theory.specs.Table.{rule_at}
use Rattle.lines.specs.Limits.{max_rules}
use Rattle.table.specs.Places.{grammar_in}
use Rattle.table.specs.LookUps.{Row}
use Rattle.table.proofs.entries.fill_rules.Given as goal

abbrev pub invariant-loop-r : goal.invariant-loop-r
invariant-loop-r l = Row l.r max_rules (λ r. length (rule_at (grammar_in l.t.numbers.now) r).right) l.lens ×
    Row l.r max_rules (λ r. (rule_at (grammar_in l.t.numbers.now) r).left) l.lefts
