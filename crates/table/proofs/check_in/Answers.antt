-- `check_in` tells what the numbers' answer is: the lines first, then the table. There is room for the sets, since a table that fits has not too many
-- numbers.
use native.Mathlib.Omega.{arith}
use Rattle.std.proofs.lemmas.Result.{err_from_is_err_and}
use Rattle.table.proofs.Answered.{fine_lines, answers_check, refused_check}
use Rattle.table.proofs.SetsNoted.{numbers_in, all_told}
use Rattle.table.proofs.check_in.Goals as goal

pub returns-in_err-sizes : goal.returns-in_err-sizes
returns-in_err-sizes c = let p = err_from_is_err_and c.from_residual.result c.from_residual.ensures.1 in
    rw (p.1, p.2) (refused_check c.args.table.now _ c.in_err-sizes.ensures.reads)

pub invariant_of-verdict : goal.invariant_of-verdict
invariant_of-verdict c = let f = c.in_ok-sizes.ensures in
    let few = numbers_in _ f.reads.held.in_range in
    let r = c.requires few in
    let l = c.read_lines.auto.sets in
    record { all_told = all_told _ c.in_ok-sizes.sizes (f.sets_read (omega arith)) }

pub returns : goal.returns
returns c = answers_check (fine_lines c.in_ok-sizes.ensures.reads) c.verdict.ensures
