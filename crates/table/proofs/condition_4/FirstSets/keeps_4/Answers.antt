-- `condition_4::FirstSets::keeps_4` meets its contract: the rows tell condition 4.
use native.Mathlib.Omega.{arith}
use lib.Dec.{lit<}
use Rattle.table.specs.Items.Held.{state_in}
use Rattle.table.specs.NotedTable.{table_of}
use Rattle.table.specs.Places.Step.{held_formed}
use Rattle.table.proofs.Condition4.{rows_tell}
use Rattle.table.proofs.FirstsTold.{told_reduced}
use Rattle.table.proofs.condition_4.FirstSets.keeps_4.Goals as goal

pub returns : goal.returns
returns c =
    let S = c.args.self.now in
    let H = S.noted.now.table.now.states_held in
    let W = held_formed S.noted.now.table.now.rules_held in
    let s = c.args.s in
    let e = H.states_are in
    let l = c.requires.here in
    let rows = c.gather.new in
    rows_tell (table_of S.noted.now) s W (state_in H s l).items_in (told_reduced W S.reduced)
    (c.requires.before 2 s (lit< tt) (omega arith)) rows.asked rows.given H.terms_are H.rules_are
    c.gather.ensures.asked c.gather.ensures.given c.all_given.ensures
