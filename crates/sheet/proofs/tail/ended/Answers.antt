-- `ended`: the laws of what is told of a value.
use native.Mathlib.Omega.{arith}
use Rattle.std.proofs.lemmas.Bool.Decides.{nat_tests}
use Rattle.sheet.specs.Tail.Telling.{tell_more, tell_wide, tell_small}
use Rattle.sheet.proofs.tail.ended.Goals as goal

pub returns-then-not-is_empty : goal.returns-then-not-is_empty
returns-then-not-is_empty c = λ xs t. tell_more c.args.rest.now t (grind (arith, nat_tests))

pub returns-then-top-gt-MAX_WORD : goal.returns-then-top-gt-MAX_WORD
returns-then-top-gt-MAX_WORD c = λ xs t.
    tell_wide c.args.rest.now t (grind (arith, nat_tests)) c.if-top-gt-MAX_WORD.true

pub returns : goal.returns
returns c = λ xs t. tell_small c.args.rest.now t (grind (arith, nat_tests)) c.if-top-gt-MAX_WORD.false
