-- `after_sheet` meets its contract: each answer of the tail line's reader is a case of it.
use Rattle.input.proofs.Boxing.{tailed_judged, tailed_many, tailed_range, tailed_form}
use Rattle.input.proofs.within.after_sheet.Goals as goal

pub returns-in-Ok : goal.returns-in-Ok
returns-in-Ok c = tailed_judged c.in-Ok.ensures c.requires c.judge.ensures.judgement

pub returns-in-Err-Form : goal.returns-in-Err-Form
returns-in-Err-Form c =
    rw (c.refusal.ensures, c.line_count.ensures)
    (tailed_form (rw c.in-Err-Form.field-0-is at c.in-Err-Form.ensures))

pub returns-in-Err-Range : goal.returns-in-Err-Range
returns-in-Err-Range c =
    rw (c.refusal-in-Err-Range.ensures, c.line_count-in-Err-Range.ensures)
    (tailed_range (rw c.in-Err-Range.field-0-is at c.in-Err-Range.ensures))

pub returns-in-Err-Many : goal.returns-in-Err-Many
returns-in-Err-Many c =
    tailed_many (rw c.in-Err-Many.field-0-is at c.in-Err-Many.ensures) c.read_tail.auto.out c.too_many.ensures
