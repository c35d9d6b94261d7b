-- `entries::note_acts` meets its contract: the loop keeps that the column has the first of what the items passed are worth.
use lib.ListN.{take}
use Rattle.theory.specs.Table.{state_at}
use Rattle.table.specs.Places.{table_in, grammar_in}
use Rattle.table.specs.LookUps.Columns.{Column}
use Rattle.table.specs.Items.{AtItem}
use Rattle.table.proofs.Columns.{firsts}
use Rattle.table.proofs.Actions.{by_item}
use Rattle.table.proofs.entries.note_acts.Given as goal

abbrev pub invariant-loop-k : goal.invariant-loop-k
invariant-loop-k l = AtItem l.t.numbers.now l.t.state_at.now l.s l.n l._k l.at × Column l.t.sizes.terms l.t.sizes.states l.s (λ a. firsts (by_item (grammar_in l.t.numbers.now) a) (take l._k (state_at (table_in l.t.numbers.now) l.s).items)) l.initial.acts l.acts
