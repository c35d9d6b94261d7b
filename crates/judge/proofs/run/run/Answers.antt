-- `run` meets its contract by the laws of the first token.
use Rattle.judge.proofs.Running.{run_empty, run_start, run_stop, run_on, run_go}
use Rattle.judge.proofs.run.run.Goals as goal

pub returns-in_default : goal.returns-in_default
returns-in_default c = λ t K. run_empty c.args.tail.now c.in_default.len_below

pub start-f-requires : goal.start-f-requires
start-f-requires c = run_start c.in-len1-up.len_at_least c.from.ensures c.requires

pub returns-then-f : goal.returns-then-f
returns-then-f c = run_stop c.in-len1-up.len_at_least c.from.ensures c.start-f.ensures c.if-f.true

pub go_on-requires : goal.go_on-requires
go_on-requires c = run_go c.in-len1-up.len_at_least c.from.ensures c.start-f.ensures c.if-f.false c.start-f.auto.room c.requires

pub returns : goal.returns
returns c = λ t K. c.go_on.ensures t (run_on c.in-len1-up.len_at_least c.from.ensures c.start-f.ensures c.if-f.false c.start-f.auto.room t K)
