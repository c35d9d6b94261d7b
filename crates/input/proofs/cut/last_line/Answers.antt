-- `last_line` finds where the last line begins: after the last LF that stands before the last byte.
use Rattle.std.proofs.Common.{rules, arith}
use Rattle.input.proofs.Cutting.{all_one, after_lf}
use Rattle.input.proofs.cut.last_line.Goals as goal

pub returns-in-Some-rposition-clause-cut : goal.returns-in-Some-rposition-clause-cut
returns-in-Some-rposition-clause-cut c =
    after_lf c.args.bytes.now c.in-Some.front.now c.in-Some.field-0-0.now (search rules)
    c.in-Some-rposition.at (search rules) (search rules) (search rules)

pub returns-in-None-clause-cut : goal.returns-in-None-clause-cut
returns-in-None-clause-cut c =
    all_one c.args.bytes.now c.in-Some.front.now c.in-Some.field-0-0.now (search rules) (search rules)
    _ _ (grind arith) (grind arith)
