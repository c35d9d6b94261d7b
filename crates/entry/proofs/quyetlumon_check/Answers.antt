-- `quyetlumon_check` meets its contract: what the check tells has room in a number.
use Rattle.entry.proofs.Packing.{check_fits}
use Rattle.entry.proofs.quyetlumon_check.Goals as goal

pub pack-requires : goal.pack-requires
pack-requires c = rw c.from.ensures (check_fits c.check_table.result c.check_table.ensures)
