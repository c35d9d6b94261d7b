-- `put_line` meets its contract: a key, the fewest decimal digits and LF are a number's line.
use Rattle.std.proofs.Common.{arith}
use Rattle.input.proofs.Showing.{line_put}
use Rattle.input.proofs.shown.put_line.Goals as goal

pub returns-clause-line : goal.returns-clause-line
returns-clause-line c =
    let number = c.args.number in
    let count = c.decimal-n.result in
    let e = c.decimal-n.ensures in
    line_put number count (omega arith) e.len (omega (arith, e.in_bounds)) e.digits
    c.put-a.ensures c.put-b.ensures c.put.ensures
