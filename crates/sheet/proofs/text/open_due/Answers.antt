-- `open_due`: the key that is due stands in front, or not.
use Rattle.std.proofs.lemmas.Slice.Eq.{strip_prefix_is}
use Rattle.std.proofs.lemmas.Bool.Decides.{Decides-eqb}
use Rattle.lines.specs.Shape.Shaped.{due_of}
use Rattle.sheet.specs.Text.DueLines.{line_extra, opened}
use Rattle.sheet.proofs.text.open_due.Goals as goal

pub returns-in_err-opening : goal.returns-in_err-opening
returns-in_err-opening c =
    rw c.from_residual.ensures (line_extra (due_of c.args.due) c.args.s.now c.in_err-opening.ensures)

pub returns : goal.returns
returns c =
    let e = c.in_ok-opening.ensures in
    let k = c.in_ok-opening.field-0.now in
    opened (due_of c.args.due) c.args.s.now k e.0 e.1 c.strip_prefix.result
    (strip_prefix_is Decides-eqb c.args.s.now k c.strip_prefix.result c.strip_prefix.ensures.cases)
