-- `extend` meets its contract: the trees are made, then merged with the roots.
use Rattle.forest.proofs.Holding.{extend_some, extend_pair, extend_merges}
use Rattle.forest.specs.Longs.{leaves}
use Rattle.forest.specs.Rows.{meant}
use lib.ListN.{length}
use Rattle.forest.proofs.steps.extend.Goals as goal

pub spread-requires : goal.spread-requires
spread-requires c =
    (extend_some c.requires, c.requires.held.aside)

pub settle-requires : goal.settle-requires
settle-requires c =
    let row = c.args.row.now in
    extend_pair (leaves (meant row) 0 (length row)) (length row) c.requires c.spread.ensures

pub returns : goal.returns
returns c =
    let row = c.args.row.now in
    let the-spread = c.spread in
    extend_merges c.args.room.now row the-spread.new.room c.settle.new.room
    (leaves (meant row) 0 (length row)) (length row) the-spread.ensures c.settle.ensures
