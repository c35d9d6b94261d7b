-- `judge_ready` meets its contract: whatever the run left on the words it was lent, they are cleared.
use Rattle.judge.proofs.Judging.{words_there, ready_into}
use native.Mathlib.Omega.{arith}
use lib.Seq.{length-take-le}
use Prim.Native.Nat.{◌≤◌}
use lib.ListN.{length}
use mathlib.Core.Path.{◌≡◌, ◌∙◌}
use Rattle.std.proofs.lemmas.Grind.{common_steps}
use Rattle.judge.proofs.ready.judge_ready.Goals as goal

pub returns : goal.returns
returns c =
    let w = c.run_table-j in
    let k : c.args.words ≤ length c.args.room.now = words_there _ c.requires in
    let l : length w.new.room ≡ c.args.words = w.auto.room ∙ length-take-le c.args.words c.args.room.now k in
    let f = c.fill.ensures.after (λ y h. h) in
    ready_into _ c.requires w.new.room w.auto.room w.ensures (grind (arith, common_steps, f, l, k))
