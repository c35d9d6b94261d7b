use Rattle.std.proofs.Common.{length, arith, rules}
use Rattle.std.proofs.lemmas.Slice.{between_to_end}
use Rattle.sheet.specs.Text.Readings.{reading_bad, keeping_start, keeping_more, told_empty, told_small, told_wide}
use Rattle.sheet.proofs.text.numbers.Goals as goal
use Rattle.sheet.proofs.text.numbers.Goals.{then-s-lt1, else-s-lt1+in_default-1}

pub returns-in-10 : goal.returns-in-10
returns-in-10 c =
    let s = c.args.s.now in
    told_empty s c.args.kept.now (omega arith) (omega arith) (between_to_end s 1 (length s) (omega arith))

pub loop-value-init : goal.loop-value-init
loop-value-init c =
    keeping_start c.args.s.now c.args.kept.now
    (elim c.if-s-lt1.branch [ then-s-lt1 w ↦ λ h e. grind arith | else-s-lt1+in_default-1 w ↦ λ h e. grind arith ])

pub returns-then-top-le-MAX_WORD : goal.returns-then-top-le-MAX_WORD
returns-then-top-le-MAX_WORD c =
    let k = c.loop-value.invariant in
    let w = c.in-Some in
    told_small k c.requires w.value w.last w.after.now w.ensures.0 w.ensures.1 c.max-top.ensures
    c.if-last.true c.if-top-le-MAX_WORD.true

pub returns-else-top-le-MAX_WORD : goal.returns-else-top-le-MAX_WORD
returns-else-top-le-MAX_WORD c =
    let k = c.loop-value.invariant in
    let w = c.in-Some in
    told_wide k c.requires w.value w.last w.after.now w.ensures.0 w.ensures.1 c.max-top.ensures
    c.if-last.true c.if-top-le-MAX_WORD.false

pub loop-value-preserved : goal.loop-value-preserved
loop-value-preserved c =
    let k = c.loop-value.invariant in
    let w = c.in-Some in
    keeping_more k c.requires w.value w.last w.after.now w.ensures.0 w.ensures.1 c.max-top.ensures c.if-last.false

-- searched, so that the refusal may be written in any way that says `Form`
pub returns : goal.returns
returns c = let e = reading_bad c.loop-value.invariant.reading c.in_default-word.ensures in search (rules, e)
