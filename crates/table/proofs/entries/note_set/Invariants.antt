-- `entries::note_set` meets its contract: the loop keeps that the column has the rule for the members of the set passed.
use lib.ListN.{take}
use Rattle.table.specs.LookUps.Columns.{Column}
use Rattle.table.specs.Items.{item_in}
use Rattle.table.proofs.Columns.{firsts}
use Rattle.table.proofs.Actions.{by_token}
use Rattle.table.proofs.entries.note_set.Given as goal

abbrev pub invariant-loop-x : goal.invariant-loop-x
invariant-loop-x l =
    Column l.t.sizes.terms l.t.sizes.states l.s (λ a. firsts (by_token (item_in l.t.numbers.now l.at).rule a) (take l.x-index l.ahead)) l.initial.acts l.acts
