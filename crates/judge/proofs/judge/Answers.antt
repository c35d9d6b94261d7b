-- `judge` meets its contract: what the check refuses is handed out, and a table that passes goes on to the tail.
use Rattle.judge.proofs.Judging.{fault_into}
use Rattle.judge.proofs.judge.Goals as goal

pub returns-in-Err : goal.returns-in-Err
returns-in-Err c = fault_into c.args.tail.now c.args.room.now c.in-Err.fault c.in-Err.ensures c.from.ensures
