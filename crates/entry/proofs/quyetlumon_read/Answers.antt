-- `quyetlumon_read` meets its contract: what the reader tells has room in a number.
use Rattle.entry.proofs.Packing.{read_fits}
use Rattle.entry.proofs.quyetlumon_read.Goals as goal

pub pack-requires : goal.pack-requires
pack-requires c = rw c.numbers_read.ensures (read_fits c.read.result c.read.ensures)
