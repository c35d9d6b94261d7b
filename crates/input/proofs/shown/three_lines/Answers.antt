-- `three_lines` meets its contract: the lines stand one after the other.
use Rattle.sheet.specs.Quoted.{ascii}
use Rattle.input.proofs.Showing.{three_put}
use Rattle.input.proofs.shown.three_lines.Goals as goal

pub returns-clause-end : goal.returns-clause-end
unfolding ascii
returns-clause-end c =
    (three_put c.args.j c.put_line-a.ensures.line c.put_line-b.ensures.line c.put_line.ensures.line).1.0

pub returns-clause-text : goal.returns-clause-text
unfolding ascii
returns-clause-text c =
    (three_put c.args.j c.put_line-a.ensures.line c.put_line-b.ensures.line c.put_line.ensures.line).1.1
