-- Every outcome fits in one number: answers are below 256, values below 2 ^ 24, steps below 2 ^ 32.
use Rattle.std.specs.Prelude.{ℕ, ◌+◌, ◌*◌, ◌≤◌, ◌<◌, refl, List, length}
use Rattle.std.proofs.Common.{arith, mul-le-mul, ap, ◌∙◌, length-append}
use Rattle.theory.specs.Table.{Table, count}
use Rattle.theory.proofs.Sound.{judged_stop}
use Rattle.theory.proofs.Demands.{demand_3}
use Rattle.lines.specs.Limits.{max_tail}
use Rattle.lines.specs.Lines.{Draft, flat, start}
use Rattle.lines.specs.Lines.Numbers.{flat-long}
use Rattle.lines.specs.Ranges.{lines_of, InRange}
use Rattle.sheet.specs.Sheet.{print_from}
use Rattle.sheet.specs.Sheet.Exact.{print_long, print-flat}
use Rattle.sheet.specs.Reads.{SheetOf, Stops, Reads, ReadsInto, refused, filled}
use Rattle.table.specs.Checks.{Checked}
use Rattle.table.specs.Check.{Check, Checks, numbers}
use Rattle.judge.specs.declared.Judgement.{Judgement}
use Rattle.judge.specs.Judge.{JudgesUpTo, Judges, Good}

-- an answer and a value within their bits
abbrev pub Small : ℕ × ℕ → Type 0
Small o = (o.0 < 256) × (o.1 < 16777216)

-- ---- the reader

-- the lines before the one that is told are at most as many as the bytes
line_small : {P : Draft → List ℕ → Type 0} {bs : List ℕ} {n : ℕ} → Stops P start bs n → n ≤ length bs
line_small s =
    let a = flat-long s.before in
    let b = print_long start s.before in
    let c = ap length s.bytes ∙ length-append (print_from start s.before) s.rest in
    omega (arith, s.count)

-- so are the numbers of a sheet
sheet_small : {bs : List ℕ} {t : Table} → SheetOf bs t → length (flat (lines_of t)) ≤ length bs
sheet_small {t = t} s =
    let a = print_long start (lines_of t) in
    let b = ap length (s.printed ∙ print-flat (lines_of t)) in
    omega arith

reads_small : {bs : List ℕ} {room : ℕ} {o : ℕ × ℕ} → Reads bs room o → Small o
reads_small (Reads.over l) = (omega arith, omega arith)
reads_small (Reads.bad n l s) = (omega arith, omega (arith, line_small s))
reads_small (Reads.unfit n l s) = (omega arith, omega (arith, line_small s))
reads_small (Reads.short t s l) = (omega arith, omega (arith, sheet_small s, s.not_over))
reads_small (Reads.good t s l) = (omega arith, omega (arith, sheet_small s, s.not_over))

-- what the reader tells is small
pub read_small : {bs before after : List ℕ} {o : ℕ × ℕ} → ReadsInto bs before o after → Small o
read_small (refused a v h n) = reads_small h
read_small (filled t s l) = (omega arith, omega (arith, sheet_small s, s.not_over))

-- ---- the check

-- a table's symbols and states are few
few : {t : Table} → InRange t → (t.grammar.terms + t.grammar.nonterms ≤ 95) × (count t ≤ 128)
few r = (omega (arith, r.term_count, r.nonterm_count), r.state_count.1)

-- what the check tells is small
pub check_small : {ns : List ℕ} {c : Check} → Checks ns c → Small (numbers c)
unfolding numbers
check_small (Checks.over l) = (omega arith, omega arith)
check_small (Checks.unfit n l s) =
    let a = flat-long s.before in
    let b = ap length s.numbers ∙ length-append (flat s.before) s.rest in
    (omega arith, omega (arith, s.line))
check_small (Checks.unreduced t v (f, Checked.unreduced h)) = (omega arith, omega (arith, h.has_it.0.1, (few f.in_range).0))
check_small (Checks.ringed t v (f, Checked.ringed r h)) = (omega arith, omega (arith, h.has_it.0.1, (few f.in_range).0))
check_small (Checks.broken t k s g) = (omega arith, omega arith)
check_small (Checks.passes t (f, c)) = (omega arith, omega (arith, (few f.in_range).1))

-- ---- the judge

-- the words of room that a tail calls for
words_small : (tail : List ℕ) {ns : List ℕ} {t : Table} → Good ns t → length tail ≤ max_tail → count t * (length tail + 2) ≤ 524544
words_small tail {t = t} g l = mul-le-mul {n₂ = 128} {m₂ = 4098} (few g.its_numbers.in_range).1 (omega arith)

-- the steps that a judgement can take
steps_small : (tail : List ℕ) {ns : List ℕ} {t : Table} → Good ns t → length tail ≤ max_tail →
    length tail * (count t * (2 + t.grammar.nonterms * (count t + 1))) < 4294967296
steps_small tail {t = t} g l =
    let r = g.its_numbers.in_range in
    let a : t.grammar.nonterms * (count t + 1) ≤ 32 * 129 = mul-le-mul {n₂ = 32} {m₂ = 129} r.nonterm_count.1 (omega (arith, r.state_count.1)) in
    let b : count t * (2 + t.grammar.nonterms * (count t + 1)) ≤ 128 * 4130 = mul-le-mul {n₂ = 128} {m₂ = 4130} r.state_count.1 (omega arith) in
    let c : length tail * (count t * (2 + t.grammar.nonterms * (count t + 1))) ≤ 4096 * 528640 = mul-le-mul {n₂ = 4096} {m₂ = 528640} l (omega arith) in
    omega arith

-- what the judge tells is small
pub judge_small : {ns tail : List ℕ} {room : ℕ} {j : Judgement} → Judges ns tail room j → Small (j.answer, j.value) × (j.steps < 4294967296)
judge_small (JudgesUpTo.refused c h n) = (check_small h, omega arith)
judge_small (JudgesUpTo.over t g l) = ((omega arith, omega arith), omega arith)
judge_small (JudgesUpTo.strange t i g l s) =
    let a = ap length s.its_tail ∙ length-append s.before _ in
    ((omega arith, omega (arith, s.place)), omega arith)
judge_small {tail = tail} (JudgesUpTo.no_room t g l ts r) = ((omega arith, omega (arith, words_small tail g l)), omega arith)
judge_small {tail = tail} (JudgesUpTo.piece t k g r y) =
    ((omega arith, omega (arith, r.few)), omega (arith, demand_3 t g.passes y r.tokens, steps_small tail g r.few))
judge_small {tail = tail} (JudgesUpTo.stop t i k g r y) =
    ((omega arith, omega (arith, judged_stop y refl, r.few)), omega (arith, demand_3 t g.passes y r.tokens, steps_small tail g r.few))
