-- `sets::within` meets its contract: all of the one set are in the other exactly if the other is their union.
use Rattle.table.proofs.Inside.{inside}
use Rattle.table.proofs.sets.within.Goals as goal

pub returns : goal.returns
returns c = inside 64 c.args.a c.args.b c.ranges.a.fits c.ranges.b.fits
