-- What the rest says behind the number so far is what was asked, and the number is not too large for one digit more.
use Rattle.std.proofs.Common.{◌≡◌, ◌≤◌, max, length, drop}
use Rattle.runs.specs.Fields.{number_from}
use Rattle.runs.proofs.field.Given as goal

abbrev pub invariant-loop-i : goal.invariant-loop-i
invariant-loop-i l =
    (l.value ≤ 1000009)
    × (l.i ≤ max l.at (length l.s))
    × (number_from l.value l.i (drop l.i l.s) ≡ number_from 0 l.at (drop l.at l.s))
