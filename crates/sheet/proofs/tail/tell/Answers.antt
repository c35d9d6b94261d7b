use Rattle.std.proofs.Common.{length, [], ◌∷◌, ◌++◌, sym, ap, ◌∙◌, arith, rules}
use Rattle.std.proofs.lemmas.Slice.{between_to_end}
use Rattle.sheet.specs.Tail.Telling.{telling_start, telling_tally, telling_more, tell_bad}
use Rattle.sheet.specs.Tail.{alone, told_of}
use Rattle.sheet.specs.Text.Tallies.{tally_none}
use Rattle.sheet.specs.Text.{Value, value_of}
use Rattle.sheet.specs.Text.Readings.{reading_empty, reading_bad, reading_last}
use Rattle.sheet.proofs.tail.tell.Goals as goal
use Rattle.sheet.proofs.tail.tell.Goals.{then-s-lt1, else-s-lt1+in_default-1}

pub returns-in-10 : goal.returns-in-10
returns-in-10 c =
    let s = c.args.s.now in
    let e = reading_empty s (omega arith) (omega arith) (between_to_end s 1 (length s) (omega arith)) in
    c.ended.ensures [] tally_none ∙ ap (λ (v : Value). told_of (alone v)) (sym e)

pub loop-value-init : goal.loop-value-init
loop-value-init c =
    telling_start c.args.s.now
    (elim c.if-s-lt1.branch [ then-s-lt1 w ↦ λ h e. grind arith | else-s-lt1+in_default-1 w ↦ λ h e. grind arith ])

pub returns-then-last : goal.returns-then-last
returns-then-last c =
    let t = c.loop-value.invariant in
    let w = c.in-Some in
    let k = telling_tally t w.value w.last w.after.now w.ensures.0 w.ensures.1 c.max-top.ensures in
    let e = reading_last t.reading w.value w.last w.after.now w.ensures.1 c.if-last.true in
    c.ended-then-last.ensures (t.reading.acc ++ (w.value ∷ [])) k ∙ ap (λ (v : Value). told_of (alone v)) (sym e)

pub loop-value-preserved : goal.loop-value-preserved
loop-value-preserved c =
    let t = c.loop-value.invariant in
    let w = c.in-Some in
    telling_more t w.value w.last w.after.now w.ensures.0 w.ensures.1 c.max-top.ensures c.if-last.false

-- searched, so that the refusal may be written in any way that says `Form`
pub returns : goal.returns
returns c =
    let s = c.args.s.now in
    let e = tell_bad (value_of s) (reading_bad c.loop-value.invariant.reading c.in_default-word.ensures) in
    search (rules, e)
