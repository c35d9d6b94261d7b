-- `judge_within` meets its contract: too many bytes, a sheet that is refused, and else the last line decides.
use Rattle.std.proofs.Common.{sym, rules}
use lib.Seq.{length-take-le}
use Rattle.input.specs.Box.{Boxes, LastLine}
use Rattle.input.proofs.Boxing.{numbers_there, boxes_tailed}
use Rattle.input.proofs.within.judge_within.Goals as goal

pub returns-then-most-bytes : goal.returns-then-most-bytes
returns-then-most-bytes c = rw c.refusal.ensures (Boxes.over c.if-most-bytes.true)

pub slice_bounds-after_sheet-end : goal.slice_bounds-after_sheet-end
slice_bounds-after_sheet-end c = numbers_there c.in-Ok.count c.in-Ok.ensures

pub slice_bounds-after_sheet-end-in-Ok : goal.slice_bounds-after_sheet-end-in-Ok
slice_bounds-after_sheet-end-in-Ok c =
    sym (length-take-le c.in-Ok.count c.read.new.out (numbers_there c.in-Ok.count c.in-Ok.ensures))

pub returns-in-Ok : goal.returns-in-Ok
returns-in-Ok c =
    let a = c.args in
    let L : LastLine a.bytes.now c.split_at.result.0.now c.split_at.result.1.now = search rules in
    boxes_tailed a.most a.table.now a.tail.now a.room.now a.bytes.now c.if-most-bytes.false L
    c.in-Ok.count c.in-Ok.ensures c.after_sheet.ensures
