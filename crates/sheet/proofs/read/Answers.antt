-- `read`: a sheet that is too long, or what `read_in` makes of it with an array that is long enough.
use Rattle.sheet.specs.Reads.Answers.{answer_long}
use Rattle.sheet.proofs.read.Goals as goal

pub returns-then-length-gt-MAX_BYTES : goal.returns-then-length-gt-MAX_BYTES
returns-then-length-gt-MAX_BYTES c = answer_long c.args.bytes.now c.args.out.now c.if-length-gt-MAX_BYTES.true
