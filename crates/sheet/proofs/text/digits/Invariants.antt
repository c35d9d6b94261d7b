-- `digits`: the loop's invariant is `Counting`: what is left of the digits, with those counted, is all of them.
use Rattle.sheet.specs.Text.Digits.{Counting}
use Rattle.sheet.proofs.text.digits.Given as goal

abbrev pub invariant-loop-count : goal.invariant-loop-count
invariant-loop-count l = Counting l.s l.count l.value
