-- From what the pass finds and keeps to the reader's outcome.
use Rattle.std.specs.Prelude.{ℕ, ◌≤◌, ◌<◌, ◌≡◌, Result, Ok, Err}
use Rattle.std.proofs.Common.{arith, sym, ◌∙◌, length-take}
use Rattle.std.proofs.Math.Path.{refl, ap, subst}
use mathlib.Core.List.{List, []}
use Rattle.std.proofs.Math.ListN.{length, take}
use borrow.Author.Tests.{le-leb, lt-leb}
use Rattle.lines.specs.Basics.{never}
use Rattle.lines.specs.Limits.{max_bytes}
use Rattle.lines.specs.Lines.{Draft, start}
use Rattle.sheet.specs.Sheet.{Read, sheet_at, read_sheet, outcome, in_front, slice_after}
use Rattle.sheet.specs.Scan.{scan_of, Kept}
use Rattle.sheet.specs.Reads.{ReadsInto, answer_of}
use Rattle.sheet.specs.Reads.Exact.{never_over}
use Rattle.sheet.specs.Reads.Slices.{computed}
use Rattle.sheet.specs.declared.ReadError.{ReadError}

module _ (bs before : List ℕ) where
  -- too many bytes
  pub answer_long : max_bytes < length bs → ReadsInto bs before (answer_of (Err ReadError.TooLong)) before
  unfolding answer_of outcome slice_after read_sheet
  answer_long h =
      let e = lt-leb (length bs) max_bytes h in
      computed bs before (10, 0) before (rw (e, outcome) refl) (rw (e, slice_after) refl)

  module _ (l : length bs ≤ max_bytes) where
    whole : read_sheet bs ≡ sheet_at 0 [] start bs
    unfolding read_sheet
    whole = rw (le-leb (length bs) max_bytes l, read_sheet) refl

    -- the pass refuses the sheet
    pub answer_refused : (r : ReadError) → Err r ≡ scan_of (sheet_at 0 [] start bs) →
        ReadsInto bs before (answer_of (Err r)) before
    unfolding answer_of outcome slice_after scan_of
    answer_refused r e = at (sheet_at 0 [] start bs) refl
      where
        at : (q : Read) → sheet_at 0 [] start bs ≡ q → ReadsInto bs before (answer_of (Err r)) before
        at Read.over p = absurd (never_over bs p)
        at (Read.bad n) p =
            let h : ◌≡◌ {A = Result ℕ ReadError} (Err (ReadError.Form n)) (Err r) = sym (e ∙ ap scan_of p) in
            let q : read_sheet bs ≡ Read.bad n = whole ∙ p in
            subst (λ x. ReadsInto bs before (answer_of x) before) h
            (computed bs before (11, n) before (rw (q, outcome) refl) (rw (q, slice_after) refl))
        at (Read.unfit n) p =
            let h : ◌≡◌ {A = Result ℕ ReadError} (Err (ReadError.Range n)) (Err r) = sym (e ∙ ap scan_of p) in
            let q : read_sheet bs ≡ Read.unfit n = whole ∙ p in
            subst (λ x. ReadsInto bs before (answer_of x) before) h
            (computed bs before (12, n) before (rw (q, outcome) refl) (rw (q, slice_after) refl))
        at (Read.good ns d) p =
            let h : ◌≡◌ {A = Result ℕ ReadError} (Err r) (Ok (length ns)) = e ∙ ap scan_of p in never cc

    module _ (count : ℕ) (e : Ok count ≡ scan_of (sheet_at 0 [] start bs))
        (kept : List ℕ) (k : Kept (sheet_at 0 [] start bs) kept) where
      -- all lines are read: their numbers stand at the front of the array
      record Counted : Type 0 where
        numbers : List ℕ
        draft : Draft
        read : read_sheet bs ≡ Read.good numbers draft
        how_many : count ≡ length numbers
        held : take count kept ≡ numbers

      counted : Counted
      unfolding scan_of
      counted = at (sheet_at 0 [] start bs) refl
        where
          at : (r : Read) → sheet_at 0 [] start bs ≡ r → Counted
          at Read.over p = absurd (never_over bs p)
          at (Read.bad n) p =
              let h : ◌≡◌ {A = Result ℕ ReadError} (Ok count) (Err (ReadError.Form n)) = e ∙ ap scan_of p in never cc
          at (Read.unfit n) p =
              let h : ◌≡◌ {A = Result ℕ ReadError} (Ok count) (Err (ReadError.Range n)) = e ∙ ap scan_of p in never cc
          at (Read.good ns d) p =
              let h : ◌≡◌ {A = Result ℕ ReadError} (Ok count) (Ok (length ns)) = e ∙ ap scan_of p in
              let c : count ≡ length ns = cc in
              record {
                numbers = ns;
                draft = d;
                read = whole ∙ p;
                how_many = c;
                held = ap (λ (x : ℕ). take x kept) c ∙ subst (λ r. Kept r kept) p k;
              }

      -- they are no more than the array has
      pub kept-room : count ≤ length kept
      kept-room =
          let a = ap (λ (x : List ℕ). length x) counted.held in let b = length-take count kept in let c = counted.how_many in omega arith

      -- no room for the numbers
      pub answer_short : length before < count → ReadsInto bs before (answer_of (Err (ReadError.Short count))) before
      unfolding answer_of outcome slice_after
      answer_short h =
          let q = counted.how_many in
          let b = lt-leb (length counted.numbers) (length before) (omega arith) in
          computed bs before (13, count) before (rw (counted.read, outcome) (rw b (ap (λ (x : ℕ). (13, x)) (sym q)))) (rw (counted.read, slice_after) (rw b refl))

      -- the numbers are written
      pub answer_fit : count ≤ length before → (after : List ℕ) → after ≡ in_front (take count kept) before →
          ReadsInto bs before (answer_of (Ok count)) after
      unfolding answer_of outcome slice_after
      answer_fit h after f =
          let q = counted.how_many in
          let b = le-leb (length counted.numbers) (length before) (omega arith) in
          computed bs before (0, count) after (rw (counted.read, outcome) (rw b (ap (λ (x : ℕ). (0, x)) (sym q))))
          (rw (counted.read, slice_after) (rw b (sym (f ∙ ap (λ (x : List ℕ). in_front x before) counted.held))))
