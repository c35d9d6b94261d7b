-- From what each part finds to the outcome of the whole input.
use Rattle.std.specs.Prelude.{Ok, Err, Result}
use Prim.Native.Nat.{ℕ, ◌≤◌, ◌<◌}
use native.Mathlib.Omega.{arith}
use mathlib.Core.Path.{◌≡◌, refl, sym, ap, ◌∙◌, subst, transport}
use mathlib.Core.List.{List}
use lib.ListN.{length, take, drop}
use lib.Seq.{take_at, length_front, length-take-le}
use Rattle.theory.specs.Table.{Table}
use Rattle.lines.specs.Limits.{max_tail}
use Rattle.lines.specs.Ranges.{lines_of}
use Rattle.sheet.specs.Sheet.{in_front, Short}
use Rattle.sheet.specs.Reads.{Reads, ReadsInto, SheetOf, answer_of}
use Rattle.sheet.specs.Tail.{Words, tail_line, ReadsTail}
use Rattle.sheet.specs.declared.ReadError.{ReadError}
use Rattle.sheet.specs.declared.TailError.{TailError}
use Rattle.table.specs.Check.{Checks}
use Rattle.table.specs.declared.Fault.{Fault}
use Rattle.judge.specs.Judge.{refusal, handed, handed_read, JudgesUpTo}
use Rattle.judge.specs.Judge.Exact.{passing, narrow}
use Rattle.judge.specs.declared.Judgement.{Judgement}
use Rattle.judge.proofs.Judging.{no_pass}
use Rattle.input.specs.Box.{LastLine, Input, Given, numbers_of, Boxes}
use Rattle.input.specs.Box.Sizes.{line_count, sheet-lines}
use Rattle.input.specs.Parts.{box_of, Tailed}

-- ---- more tokens than the limit

module _ (ns : List ℕ) (limit : ℕ) (tail : List ℕ) (room : ℕ) where
  -- the check's refusal goes first
  pub many_refused : (r : Judgement) (fault : Fault) → Checks ns (Err fault) → r ≡ handed (Err fault) →
      JudgesUpTo limit ns tail room r
  many_refused r fault h e =
      rw e (JudgesUpTo.refused (Err fault) h (no_pass (Err fault) (λ m e. absurd (cc))))

  -- by a table that passes it is 30
  pub many_over : (m : ℕ) → Checks ns (Ok m) → limit < length tail → JudgesUpTo limit ns tail room (refusal 30 limit)
  many_over m h l = let (t, g, s) = passing h in JudgesUpTo.over t g l

-- ---- the last line

-- what an answer of the tail line's reader says
abbrev Said : List ℕ → List ℕ → Result ℕ TailError → List ℕ → Type 0
Said last before (Ok n) after =
    (xs : List ℕ) × (last ≡ tail_line xs) × Words xs × (length xs ≤ length before) × (length xs ≡ n) × (after ≡ in_front xs before)
Said last before (Err (TailError.Many n)) after = (xs : List ℕ) × (last ≡ tail_line xs) × Words xs × (length before < length xs)
Said last before (Err TailError.Range) after = (xs : List ℕ) × (last ≡ tail_line xs) × Short xs × (Words xs → ⊥)
Said last before (Err TailError.Form) after = (xs : List ℕ) → Short xs → last ≡ tail_line xs → ⊥

says : {last before after : List ℕ} {g : Result ℕ TailError} → ReadsTail last before g after → Said last before g after
says (ReadsTail.tokens xs e w l) = (xs, e, w, l, refl, refl)
says (ReadsTail.many xs e w l) = (xs, e, w, l)
says (ReadsTail.range xs e s w) = (xs, e, s, w)
says (ReadsTail.form f) = f

module _ {last before after : List ℕ} where
  -- there are so many places
  pub tokens_there : {n : ℕ} → ReadsTail last before (Ok n) after → n ≤ length after
  tokens_there R =
      let (xs, e, w, l, q, f) = says R in
      let k = ap (λ (x : List ℕ). length x) f ∙ length_front before xs (length xs) (sym (length-take-le (length xs) before l)) in
      omega arith

  module _ {line : ℕ} {room ns : List ℕ} where
    -- the tokens are judged
    pub tailed_judged : {n : ℕ} {r : Judgement} → ReadsTail last before (Ok n) after → length before ≤ max_tail →
        JudgesUpTo max_tail ns (take n after) (length room) r → Tailed line before room ns last r
    tailed_judged {n} {r} R m j =
        let (xs, e, w, l, q, f) = says R in
        let t : take n after ≡ xs = ap (take n) f ∙ take_at xs (drop (length xs) before) n q in
        Tailed.judged xs r e w (narrow m l (subst (λ (x : List ℕ). JudgesUpTo max_tail ns x (length room) r) t j))

    -- there are more than the limit
    pub tailed_many : {n limit : ℕ} {r : Judgement} → ReadsTail last before (Err (TailError.Many n)) after → limit ≡ length before →
        ((tail : List ℕ) (w : ℕ) → limit < length tail → JudgesUpTo limit ns tail w r) → Tailed line before room ns last r
    tailed_many {r = r} R s j =
        let (xs, e, w, l) = says R in
        Tailed.judged xs r e w (subst (λ (x : ℕ). JudgesUpTo x ns xs (length room) r) s (j xs (length room) (omega arith)))

    -- a number is above 65,535
    pub tailed_range : ReadsTail last before (Err TailError.Range) after → Tailed line before room ns last (refusal 12 line)
    tailed_range R = let (xs, e, s, w) = says R in Tailed.unfit xs e s w

    -- it is no tail line
    pub tailed_form : ReadsTail last before (Err TailError.Form) after → Tailed line before room ns last (refusal 11 line)
    tailed_form R = Tailed.bad (says R)

-- ---- the whole input

-- a sheet that was refused has a number, and a row
row_of : {bs before after : List ℕ} (o : ℕ × ℕ) → (o.0 ≡ 0 → ⊥) → ReadsInto bs before o after → Reads bs (length before) o
row_of o n (ReadsInto.refused a v r z) = r
row_of o n (ReadsInto.filled t s l) = absurd (n refl)

-- a refusal of the reader has a number
has_number : (e : ReadError) → (answer_of (Err e)).0 ≡ 0 → ⊥
unfolding answer_of
has_number ReadError.TooLong h = omega arith
has_number (ReadError.Form n) h = omega arith
has_number (ReadError.Range n) h = omega arith
has_number (ReadError.Short n) h = omega arith

-- a sheet that was read is that of a table, whose numbers stand at the front
sheet_fits : {bs before after : List ℕ} (o : ℕ × ℕ) → o.0 ≡ 0 → ReadsInto bs before o after →
    (t : Table) × SheetOf bs t × (length (numbers_of t) ≤ length before) × (length (numbers_of t) ≡ o.1) × (after ≡ in_front (numbers_of t) before)
sheet_fits o z (ReadsInto.refused a v r n) = absurd (n z)
sheet_fits o z (ReadsInto.filled t s l) = (t, s, l, refl, refl)

module _ {sheet before after : List ℕ} (count : ℕ) (R : ReadsInto sheet before (answer_of (Ok count)) after) where
  its_table : (t : Table) × SheetOf sheet t × (length (numbers_of t) ≤ length before) × (length (numbers_of t) ≡ count) ×
      (after ≡ in_front (numbers_of t) before)
  unfolding answer_of
  its_table = sheet_fits (answer_of (Ok count)) refl R

  -- there are so many places
  pub numbers_there : count ≤ length after
  numbers_there =
      let (t, s, l, q, f) = its_table in
      let ns = numbers_of t in
      let k = ap (λ (x : List ℕ). length x) f ∙ length_front before ns (length ns) (sym (length-take-le (length ns) before l)) in
      omega arith

  -- the numbers at the front are the table's
  its_numbers : (t : Table) × SheetOf sheet t × (length (numbers_of t) ≤ length before) × (take count after ≡ numbers_of t)
  its_numbers =
      let (t, s, l, q, f) = its_table in
      (t, s, l, ap (take count) f ∙ take_at (numbers_of t) (drop (length (numbers_of t)) before) count q)

module _ (most : ℕ) (table tail room bs : List ℕ) where
  -- the last line decides
  by_last : {last : List ℕ} {t : Table} {j : Judgement} → Given (box_of most table tail room) bs last t →
      Tailed (length (lines_of t)) tail room (numbers_of t) last j → Boxes (box_of most table tail room) bs j
  by_last g (Tailed.bad h) = Boxes.bad_tail _ _ g h
  by_last g (Tailed.unfit xs e s w) = Boxes.unfit_tail _ xs _ g e s w
  by_last g (Tailed.judged xs j e w y) = Boxes.judged _ xs _ j g e w y

  module _ {sheet last : List ℕ} (few : length bs ≤ most) (L : LastLine bs sheet last) where
    its_input : Input (box_of most table tail room) bs sheet last
    its_input = record { not_over = few; its_lines = L }

    -- the sheet is refused
    pub boxes_unread : {after : List ℕ} (r : Judgement) (e : ReadError) →
        ReadsInto sheet table (answer_of (Err e)) after → r ≡ handed_read (Err e) →
        Boxes (box_of most table tail room) bs r
    boxes_unread r e R h =
        rw h (Boxes.unread sheet last _ _ its_input (row_of (answer_of (Err e)) (has_number e) R) (has_number e))

    -- the sheet is read, and the last line decides
    pub boxes_tailed : {after : List ℕ} {j : Judgement} (count : ℕ) → ReadsInto sheet table (answer_of (Ok count)) after →
        Tailed (line_count sheet) tail room (take count after) last j → Boxes (box_of most table tail room) bs j
    boxes_tailed {j = j} count R h =
        let (t, s, l, e) = its_numbers count R in
        let g : Given (box_of most table tail room) bs last t =
        record { sheet = sheet; input = its_input; its_sheet = s; its_room = l } in
        by_last g (transport (λ i. Tailed (sheet-lines sheet t s i) tail room (e i) last j) h)
