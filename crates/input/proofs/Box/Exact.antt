-- Every input has an outcome, and only one: that of the program.
use Prim.Native.Nat.{ℕ, ◌≤◌}
use Rattle.std.proofs.Common.{arith, ap, ◌∙◌, subst, true≢false}
use Rattle.std.proofs.Math.Path.{◌≡◌, refl, sym}
use Rattle.std.specs.Prelude.{Bool, length}
use Rattle.std.proofs.Math.Bool.{true, false}
use Rattle.std.proofs.Math.Option.{Option, none, some}
use mathlib.Core.List.{List}
use Rattle.std.proofs.Math.Dec.{leb}
use borrow.Author.Tests.{leb-true, leb-false, le-leb, lt-leb}
use Rattle.theory.specs.Table.{Table}
use Rattle.lines.specs.Basics.{never}
use Rattle.lines.specs.Lines.Fits.{all}
use Rattle.lines.specs.Lines.Numbers.{lines-flat}
use Rattle.lines.specs.Ranges.{lines_of}
use Rattle.sheet.specs.Sheet.{Short, Read, read_sheet, outcome}
use Rattle.sheet.specs.Text.{max_word}
use Rattle.sheet.specs.Tail.{tail_line, tail_of}
use Rattle.sheet.specs.Tail.Exact.{tail_read, read_tail, words_short, words_test, test_words, wide_test}
use Rattle.sheet.specs.Reads.{Reads, SheetOf}
use Rattle.sheet.specs.Reads.Exact.{sheet_read, reads, only as only-reading}
use Rattle.judge.specs.Judge.{refusal, outcome_up_to}
use Rattle.judge.specs.Judge.Exact.{holds as judge-holds, only as only-judgement}
use Rattle.judge.specs.declared.Judgement.{Judgement}
use Rattle.input.specs.Box.{Box, Input, Given, Boxes, numbers_of, box_tail_line, box_lines, box_outcome, cut_last}
use Rattle.input.specs.Box.Last.{cut_last_law, last-only}

module _ (b : Box) where
  -- ---- parts

  -- the input is cut as the program cuts it
  input_lines : (bs sheet last : List ℕ) → Input b bs sheet last → box_outcome b bs ≡ box_lines b sheet last
  unfolding box_outcome
  input_lines bs sheet last i = rw (le-leb (length bs) b.bytes i.not_over, box_outcome) (rw (last-only bs sheet last i.its_lines) refl)

  -- the sheet of a table, whose numbers have room, comes to the last line
  sheet-tail : (sheet last : List ℕ) (t : Table) → SheetOf sheet t → length (numbers_of t) ≤ b.numbers →
      box_lines b sheet last ≡ box_tail_line b (numbers_of t) last
  unfolding box_lines
  sheet-tail sheet last t s h = rw (sheet_read sheet t s, box_lines) (rw (le-leb (length (numbers_of t)) b.numbers h) refl)

  -- what is given comes to the last line
  given_tail : (bs last : List ℕ) (t : Table) → Given b bs last t → box_outcome b bs ≡ box_tail_line b (numbers_of t) last
  given_tail bs last t g = input_lines bs g.sheet last g.input ∙ sheet-tail g.sheet last t g.its_sheet g.its_room

  -- what the reader refuses is refused so
  refused_so : (sheet last : List ℕ) (a v : ℕ) → Reads sheet b.numbers (a, v) → (a ≡ 0 → ⊥) → box_lines b sheet last ≡ refusal a v
  unfolding box_lines outcome
  refused_so sheet last a v r n = at (read_sheet sheet) refl
    where
      o : ℕ × ℕ
      o = (a, v)

      e : outcome sheet b.numbers ≡ o
      e = only-reading sheet b.numbers o r

      as_told : (c w : ℕ) → ◌≡◌ {A = ℕ × ℕ} (c, w) o → refusal c w ≡ refusal a v
      as_told c w u = ap (λ (x : ℕ × ℕ). refusal x.0 x.1) u

      at : (s : Read) → read_sheet sheet ≡ s → box_lines b sheet last ≡ refusal a v
      at Read.over p = rw (p, box_lines) (as_told 10 0 (rw (p, outcome) at e))
      at (Read.bad m) p = rw (p, box_lines) (as_told 11 m (rw (p, outcome) at e))
      at (Read.unfit m) p = rw (p, box_lines) (as_told 12 m (rw (p, outcome) at e))
      at (Read.good ns d) p = room (leb (length ns) b.numbers) refl
        where
          room : (c : Bool) → leb (length ns) b.numbers ≡ c → box_lines b sheet last ≡ refusal a v
          room true q = let h : ◌≡◌ {A = ℕ × ℕ} (0, length ns) o = rw q at (rw (p, outcome) at e) in absurd (n (sym (ap (λ (x : ℕ × ℕ). x.0) h)))
          room false q = rw (p, box_lines) (rw q (as_told 13 (length ns) (rw q at (rw (p, outcome) at e))))

  -- ---- the relation allows no other outcome

  pub only : (bs : List ℕ) (j : Judgement) → Boxes b bs j → box_outcome b bs ≡ j
  unfolding box_outcome box_tail_line
  only bs j (Boxes.over h) = rw (lt-leb (length bs) b.bytes h, box_outcome) refl
  only bs j (Boxes.unread sheet last a v i r n) = input_lines bs sheet last i ∙ refused_so sheet last a v r n
  only bs j (Boxes.bad_tail last t g h) = given_tail bs last t g ∙ at (tail_of last) refl
    where
      at : (o : Option (List ℕ)) → tail_of last ≡ o → box_tail_line b (numbers_of t) last ≡ refusal 11 (length (lines_of t))
      at none p = rw (p, box_tail_line) (ap (λ (x : List (List ℕ)). refusal 11 (length x)) (lines-flat (lines_of t)))
      at (some xs) p = let (e, s) = read_tail last xs p in absurd (h xs s e)
  only bs j (Boxes.unfit_tail last xs t g e s h) =
      given_tail bs last t g ∙
      rw e (rw (tail_read xs s, box_tail_line) (rw (wide_test xs h) (ap (λ (x : List (List ℕ)). refusal 12 (length x)) (lines-flat (lines_of t)))))
  only bs j (Boxes.judged last xs t j' g e w h) =
      given_tail bs last t g ∙
      rw e (rw (tail_read xs (words_short xs w), box_tail_line) (rw (words_test xs w) (only-judgement b.tokens (numbers_of t) xs b.words j h)))

  -- any two outcomes that the relation allows are equal
  pub unique : (bs : List ℕ) (j j' : Judgement) → Boxes b bs j → Boxes b bs j' → j ≡ j'
  unique bs j j' h h' = sym (only bs j h) ∙ only bs j' h'

  -- ---- the relation holds of the program's outcome

  -- the last line, after the sheet of a table
  by_tail : (bs last : List ℕ) (t : Table) → Given b bs last t → Boxes b bs (box_tail_line b (numbers_of t) last)
  unfolding box_tail_line
  by_tail bs last t g = at (tail_of last) refl
    where
      at : (o : Option (List ℕ)) → tail_of last ≡ o → Boxes b bs (box_tail_line b (numbers_of t) last)
      at none p = rw (p, box_tail_line) (rw (lines-flat (lines_of t)) (Boxes.bad_tail last t g (λ xs s e. never_read xs s e)))
        where
          never_read : (xs : List ℕ) → Short xs → last ≡ tail_line xs → ⊥
          never_read xs s e = let h : ◌≡◌ {A = Option (List ℕ)} none (some xs) = sym p ∙ (ap tail_of e ∙ tail_read xs s) in never cc
      at (some xs) p = range (all (λ x. leb x max_word) xs) refl
        where
          its_line : (last ≡ tail_line xs) × Short xs
          its_line = read_tail last xs p

          range : (c : Bool) → all (λ x. leb x max_word) xs ≡ c → Boxes b bs (box_tail_line b (numbers_of t) last)
          range true q =
              rw (p, box_tail_line) (rw q
              (Boxes.judged last xs t (outcome_up_to b.tokens (numbers_of t) xs b.words) g its_line.0 (test_words xs q)
              (judge-holds b.tokens (numbers_of t) xs b.words)))
          range false q =
              rw (p, box_tail_line) (rw q (rw (lines-flat (lines_of t))
              (Boxes.unfit_tail last xs t g its_line.0 its_line.1 (λ w. true≢false (sym (words_test xs w) ∙ q)))))

  -- the sheet, and then the last line
  by_lines : (bs sheet last : List ℕ) → Input b bs sheet last → Boxes b bs (box_lines b sheet last)
  by_lines bs sheet last i = at (reads sheet b.numbers)
    where
      refused : (a v : ℕ) → Reads sheet b.numbers (a, v) → (a ≡ 0 → ⊥) → Boxes b bs (box_lines b sheet last)
      refused a v r n = subst (Boxes b bs) (sym (refused_so sheet last a v r n)) (Boxes.unread sheet last a v i r n)

      at : {o : ℕ × ℕ} → Reads sheet b.numbers o → Boxes b bs (box_lines b sheet last)
      at (Reads.over h) = refused 10 0 (Reads.over h) (λ e. omega arith)
      at (Reads.bad m l s) = refused 11 m (Reads.bad m l s) (λ e. omega arith)
      at (Reads.unfit m l s) = refused 12 m (Reads.unfit m l s) (λ e. omega arith)
      at (Reads.short t s h) = refused 13 (length (numbers_of t)) (Reads.short t s h) (λ e. omega arith)
      at (Reads.good t s h) =
          subst (Boxes b bs) (sym (sheet-tail sheet last t s h))
          (by_tail bs last t (record { sheet = sheet; input = i; its_sheet = s; its_room = h }))

  -- there is an outcome for every input
  pub holds : (bs : List ℕ) → Boxes b bs (box_outcome b bs)
  unfolding box_outcome
  holds bs = at (leb (length bs) b.bytes) refl
    where
      at : (c : Bool) → leb (length bs) b.bytes ≡ c → Boxes b bs (box_outcome b bs)
      at true p =
          rw (p, box_outcome)
          (by_lines bs (cut_last bs).0 (cut_last bs).1 (record { not_over = leb-true (length bs) b.bytes p; its_lines = cut_last_law bs }))
      at false p = rw (p, box_outcome) (Boxes.over (leb-false (length bs) b.bytes p))

  -- an outcome that was computed is the input's
  pub computed : (bs : List ℕ) {j : Judgement} → box_outcome b bs ≡ j → Boxes b bs j
  computed bs e = subst (Boxes b bs) e (holds bs)
