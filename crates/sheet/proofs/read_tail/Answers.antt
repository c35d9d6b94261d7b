-- `read_tail`: what the pass over the value tells is told of the line, and the tokens are written only if all fit.
use Rattle.sheet.specs.Tail.Telling.{answer_form, answer_refused, answer_many, answer_none}
use Rattle.sheet.specs.Tail.Telling.{tail_puttable, answer_written}
use Rattle.sheet.specs.Tail.{told_of}
use Rattle.std.proofs.lemmas.Result.{err_from_is_err_and}
use Rattle.std.proofs.Common.{sym, ap, ◌∙◌, arith}
use Rattle.sheet.proofs.read_tail.Goals as goal

pub returns-in_default : goal.returns-in_default
returns-in_default c = answer_form c.args.line.now c.args.out.now c.in_default.ensures

pub returns-in_err-count : goal.returns-in_err-count
returns-in_err-count c =
    let e = c.in_err-count.ensures ∙ ap told_of (sym c.in-Some.ensures) in
    let p = err_from_is_err_and c.from_residual.result c.from_residual.ensures.1 in
    rw (p.1, p.2) (answer_refused c.args.line.now c.args.out.now c.in_err-count.field-0.0 e)

pub returns-then-out-count : goal.returns-then-out-count
returns-then-out-count c =
    let n = c.in_ok-count in
    let e = n.ensures ∙ ap told_of (sym c.in-Some.ensures) in
    answer_many c.args.line.now c.args.out.now n.count e c.if-out-count.true

pub put_value-requires : goal.put_value-requires
put_value-requires c =
    let k = c.in-Some.ensures in
    let n = c.in_ok-count in
    let e = n.ensures ∙ ap told_of (sym k) in
    let z = c.if-count-ne0.true in
    tail_puttable c.args.line.now c.args.out.now n.count e c.in-Some.value.now k c.if-out-count.false (omega arith)

pub returns-then-count-ne0 : goal.returns-then-count-ne0
returns-then-count-ne0 c =
    let k = c.in-Some.ensures in
    let n = c.in_ok-count in
    let e = n.ensures ∙ ap told_of (sym k) in
    answer_written c.args.line.now c.args.out.now n.count e c.in-Some.value.now k c.if-out-count.false
    c.put_value.new.out c.put_value.ensures

pub returns-else-count-ne0 : goal.returns-else-count-ne0
returns-else-count-ne0 c =
    let n = c.in_ok-count in
    let e = n.ensures ∙ ap told_of (sym c.in-Some.ensures) in
    answer_none c.args.line.now c.args.out.now n.count e c.if-count-ne0.false
