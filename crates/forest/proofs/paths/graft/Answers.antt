-- `graft` meets its contract: the forest is made, then merged with the roots.
use Rattle.forest.proofs.Holding.{extend_some, extend_pair, extend_merges}
use Rattle.forest.specs.Plants.{planted}
use lib.ListN.{length}
use Rattle.forest.proofs.paths.graft.Goals as goal

pub plant-requires : goal.plant-requires
plant-requires c =
    (extend_some c.requires, c.requires.held.aside)

pub settle-requires : goal.settle-requires
settle-requires c =
    let paths = c.args.paths.now in
    extend_pair (planted paths) (length paths) c.requires c.plant.ensures

pub returns : goal.returns
returns c =
    let paths = c.args.paths.now in
    let the-plant = c.plant in
    extend_merges c.args.room.now paths the-plant.new.room c.settle.new.room (planted paths) (length paths) the-plant.ensures c.settle.ensures
