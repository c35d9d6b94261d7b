-- `condition_4::FirstSets::gather` meets its contract: the loop keeps that the rows have what the items
-- passed ask and give.
use Rattle.theory.specs.Table.{state_at}
use Rattle.table.specs.Condition4.{Asked, Given}
use Rattle.table.specs.Items.{AtItem}
use Rattle.table.specs.NotedTable.{table_of, grammar_of}
use Rattle.table.proofs.condition_4.FirstSets.gather.Given as goal

abbrev pub invariant-loop : goal.invariant-loop
invariant-loop l = record {
  walk : AtItem l.self.noted.now.table.now.numbers.now l.self.noted.now.table.now.state_at.now l.s l.n l.counter l.at;
  asked : Asked (grammar_of l.self.noted.now) (state_at (table_of l.self.noted.now) l.s).items l.counter l.asked;
  given : Given (grammar_of l.self.noted.now) (state_at (table_of l.self.noted.now) l.s).items l.counter l.given;
}
