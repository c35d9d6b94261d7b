-- `condition_5::Source::mark` meets its contract: an item with a dot above 0 is marked at its rule and the dot before.
use native.Mathlib.Omega.{arith}
use Rattle.table.proofs.NotedTable.{item_core}
use Rattle.table.proofs.condition_5.Source.mark.Goals as goal

pub core-c-requires : goal.core-c-requires
core-c-requires c =
    let (r, d) = item_core c.args.self.now.noted.now c.args.at c.requires in
    let e = c.item_rule.ensures in
    let f = c.item_dot-d.ensures in
    (omega arith, omega arith)

pub bounds-marks-c : goal.bounds-marks-c
bounds-marks-c c =
    let (r, d) = item_core c.args.self.now.noted.now c.args.at c.requires in
    let e = c.item_rule.ensures in
    let f = c.item_dot-d.ensures in
    let q = c.core-c.ensures in
    omega arith
