-- `quyetlumon_judge` meets its contract: what the judge tells has room in a number.
use Rattle.entry.proofs.Packing.{judge_fits}
use Rattle.entry.proofs.quyetlumon_judge.Goals as goal

pub pack-requires : goal.pack-requires
pack-requires c = judge_fits c.judge.ensures
