-- `judge_tail` meets its contract: each refusal is its row of the relation, and else the tail is in order.
use Rattle.judge.proofs.Judging.{some_numbers, over_into, strange_into, words_small, no_room_into, some_ready}
use native.Mathlib.Omega.{arith}
use Rattle.judge.proofs.judge_tail.Goals as goal

pub returns-then-n-gt-MAX_TAIL : goal.returns-then-n-gt-MAX_TAIL
returns-then-n-gt-MAX_TAIL c =
    over_into _ _ c.requires c.if-n-gt-MAX_TAIL.true c.refusal.ensures

pub bounds-table-1 : goal.bounds-table-1
bounds-table-1 c = some_numbers c.requires

pub returns-in-Some : goal.returns-in-Some
returns-in-Some c =
    strange_into _ _ c.requires (omega (arith, c.if-n-gt-MAX_TAIL.false)) c.from.ensures c.in-Some.i c.in-Some.ensures c.refusal-in-Some.ensures

pub overflow_mul-words : goal.overflow_mul-words
overflow_mul-words c = omega (arith, words_small c.args.tail.now c.requires (omega (arith, c.if-n-gt-MAX_TAIL.false)))

pub overflow_mul-words-2 : goal.overflow_mul-words-2
overflow_mul-words-2 c = omega (arith, words_small c.args.tail.now c.requires (omega (arith, c.if-n-gt-MAX_TAIL.false)))

pub returns-then-room-words : goal.returns-then-room-words
returns-then-room-words c =
    no_room_into _ _ c.requires (omega (arith, c.if-n-gt-MAX_TAIL.false)) c.from.ensures c.in_default.ensures c.if-room-words.true c.refusal-then-room-words.ensures

pub judge_ready-requires : goal.judge_ready-requires
judge_ready-requires c =
    some_ready _ _ c.requires (omega (arith, c.if-n-gt-MAX_TAIL.false)) c.from.ensures c.in_default.ensures c.if-room-words.false
