-- `read_in`: each return is a row of document 01's table of numbers.
use Rattle.sheet.specs.Reads.Answers.{answer_refused, answer_short, kept-room, answer_fit}
use Rattle.std.proofs.Common.{◌≡◌, ◌≤◌, length, drop, ◌++◌, sym, ◌∙◌, arith, length-take-le}
use Rattle.std.proofs.lemmas.List.{length-replicate}
use Rattle.std.proofs.lemmas.Result.{err_from_is_err_and}
use Rattle.lines.specs.Limits.{max_bytes}
use Rattle.sheet.proofs.read_in.Goals as goal

pub returns-in_err-count : goal.returns-in_err-count
returns-in_err-count g c =
    let l : length c.args.bytes.now ≤ max_bytes = omega arith in
    let e = c.in_err-count in
    let p = err_from_is_err_and c.from_residual.result c.from_residual.ensures.1 in
    rw (p.1, p.2) (answer_refused c.args.bytes.now c.args.out.now l e.field-0.0 e.ensures.value)

pub returns-then-count-out : goal.returns-then-count-out
returns-then-count-out g c =
    let l : length c.args.bytes.now ≤ max_bytes = omega arith in
    let n = c.in_ok-count in
    answer_short c.args.bytes.now c.args.out.now l n.count n.ensures.value c.scan.new.kept n.ensures.kept
    c.if-count-out.true

pub shared_whole_as_front-copy_from_slice : goal.shared_whole_as_front-copy_from_slice
shared_whole_as_front-copy_from_slice g c =
    let l : length c.args.bytes.now ≤ max_bytes = omega arith in
    let n = c.in_ok-count in
    let r = kept-room c.args.bytes.now c.args.out.now l n.count n.ensures.value c.scan.new.kept n.ensures.kept in
    let a : length c.scan.new.kept ≡ g.row.N = c.scan.auto.kept ∙ length-replicate g.row.N 0 in
    (omega (arith, r), omega arith)

pub returns : goal.returns
returns g c =
    let l : length c.args.bytes.now ≤ max_bytes = omega arith in
    let n = c.in_ok-count in
    let k = c.scan.new.kept in
    let r = kept-room c.args.bytes.now c.args.out.now l n.count n.ensures.value k n.ensures.kept in
    answer_fit c.args.bytes.now c.args.out.now l n.count n.ensures.value k n.ensures.kept c.if-count-out.false _
    (λ i. c.copy_from_slice.ensures.after i ++ drop (sym (length-take-le n.count k r) i) c.args.out.now)
