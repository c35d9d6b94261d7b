-- `scan`: the loop's invariant is `Scanning`: reading what is left is reading the whole sheet,
-- and what was read so far is kept.
use lib.ListN.{length}
use mathlib.Core.Path.{◌≡◌}
use Rattle.sheet.specs.Scan.Scanning.{Scanning}
use Rattle.sheet.proofs.scan.scan.Given as goal

abbrev pub invariant-loop-rest : goal.invariant-loop-rest
invariant-loop-rest l = record {
  long : length l.kept ≡ length l.initial.kept;
  lines : Scanning l.bytes l.shape l.lengths l.kept l.rest l.line l.w;
}

abbrev pub decreases-loop-rest : goal.decreases-loop-rest
decreases-loop-rest l = length l.rest
