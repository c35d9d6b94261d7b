-- `Forest::start` meets its contract by the laws of the first token.
use Rattle.forest.proofs.Starting.{start_end, start_extend, started}
use Rattle.forest.proofs.Forest.start.Goals as goal

pub targets-requires : goal.targets-requires
targets-requires c = start_end c.requires.can

pub extend-requires : goal.extend-requires
extend-requires c = start_extend c.requires.can c.targets.ensures c.empty.ensures.0

pub returns : goal.returns
returns c = λ C t K. started K c.targets.ensures c.empty.ensures.0 c.extend.ensures c.get.ensures.0
