-- `too_many` meets its contract: what the check refuses is handed out, and a table that passes gets 30.
use Rattle.input.proofs.Boxing.{many_over}
use Rattle.input.proofs.within.too_many.Goals as goal

pub returns-in-Ok : goal.returns-in-Ok
returns-in-Ok c = λ tail room l. rw c.refusal.ensures (many_over _ _ tail room _ c.in-Ok.ensures l)
