-- Every outcome that is no refusal is worth demands 2 and 3, and what is ready is not refused.
use Rattle.std.specs.Prelude.{ℕ, ◌<◌, ◌≡◌, refl, List, ◌++◌}
use Rattle.std.proofs.Common.{arith, ap, ◌∙◌, subst}
use Rattle.theory.specs.Table.{Table}
use Rattle.lines.specs.Basics.{impossible}
use Rattle.lines.specs.Ranges.{FitLines}
use Rattle.sheet.specs.Tail.{Words, tail_line}
use Rattle.sheet.specs.Reads.{Reads, SheetOf}
use Rattle.table.specs.Check.Exact.{one_table}
use Rattle.judge.specs.Judge.{Good, Ready, JudgesUpTo, outcome_up_to}
use Rattle.judge.specs.Judge.Demands.{demands, refused_high, not_refused}
use Rattle.judge.specs.Judge.Exact.{holds as judge-holds}
use Rattle.judge.specs.declared.Judgement.{Judgement}
use Rattle.input.specs.Box.{Box, Boxes, Given, numbers_of}
use Rattle.input.proofs.Box.Exact.{unique}
use Rattle.input.specs.Box.Sizes.{sheet-twice}
use Rattle.input.specs.Box.Worth.{Worthy}

-- what is judged was ready
judged_ready : {limit : ℕ} {ns tail : List ℕ} {room : ℕ} {j : Judgement} → JudgesUpTo limit ns tail room j → j.answer < 2 →
    (t : Table) → Good ns t → Ready limit tail room t
judged_ready (JudgesUpTo.refused c h n) l t g = impossible (omega (arith, refused_high c n))
judged_ready (JudgesUpTo.over u h o) l t g = impossible (omega arith)
judged_ready (JudgesUpTo.strange u i h o s) l t g = impossible (omega arith)
judged_ready (JudgesUpTo.no_room u h o ts r) l t g = impossible (omega arith)
judged_ready {limit} {ns} {tail} {room} (JudgesUpTo.piece u k h r y) l t g =
    subst (Ready limit tail room) (one_table h.its_numbers g.its_numbers) r
judged_ready {limit} {ns} {tail} {room} (JudgesUpTo.stop u i k h r y) l t g =
    subst (Ready limit tail room) (one_table h.its_numbers g.its_numbers) r

-- every outcome that is no refusal is worth that
pub box_demands : {b : Box} {bs : List ℕ} {j : Judgement} → Boxes b bs j → j.answer < 2 → Worthy b bs j
box_demands (Boxes.over h) l = impossible (omega arith)
box_demands (Boxes.unread sheet last a v i (Reads.over h) n) l = impossible (omega arith)
box_demands (Boxes.unread sheet last a v i (Reads.bad m o s) n) l = impossible (omega arith)
box_demands (Boxes.unread sheet last a v i (Reads.unfit m o s) n) l = impossible (omega arith)
box_demands (Boxes.unread sheet last a v i (Reads.short t s h) n) l = impossible (omega arith)
box_demands (Boxes.unread sheet last a v i (Reads.good t s h) n) l = absurd (n refl)
box_demands (Boxes.bad_tail last t g h) l = impossible (omega arith)
box_demands (Boxes.unfit_tail last xs t g e s h) l = impossible (omega arith)
box_demands {b} {bs} (Boxes.judged last xs t j g e w h) l =
    let d = demands h l in
    let k = sheet-twice g.sheet t g.its_sheet in
    let o = g.its_sheet.not_over in
    let f : FitLines (numbers_of t) t = record { in_range = g.its_sheet.in_range; its_numbers = refl; not_over = omega arith } in
    record {
      sheet = g.sheet;
      tail = xs;
      numbers = numbers_of t;
      joined = g.input.its_lines.joined ∙ ap (λ (x : List ℕ). g.sheet ++ x) e;
      worth = d;
      its_sheet = subst (SheetOf g.sheet) (one_table f d.good.its_numbers) g.its_sheet;
      ready = judged_ready h l d.table d.good;
    }

-- an input that is the sheet of a table which passes and the line of a tail that is ready is not refused
pub box_not_refused : {b : Box} {bs last xs : List ℕ} {t : Table} {j : Judgement} → Given b bs last t → last ≡ tail_line xs → Words xs →
    Good (numbers_of t) t → Ready b.tokens xs b.words t → Boxes b bs j → j.answer < 2
box_not_refused {b} {bs} {last} {xs} {t} {j} g e w p r h =
    let k = outcome_up_to b.tokens (numbers_of t) xs b.words in
    let y = judge-holds b.tokens (numbers_of t) xs b.words in
    subst (λ (x : Judgement). x.answer < 2) (unique b bs k j (Boxes.judged last xs t k g e w y) h) (not_refused t p r y)
