-- Every sheet and every slice have an outcome by the relation, slice and all, and only one.
use Rattle.std.specs.Prelude.{ℕ, ◌≤◌, ◌≡◌, Bool, true, false, ◌↔◌, List, length, take, drop, leb}
use Rattle.std.proofs.Common.{arith, sym, ap, ◌∙◌, subst, take_at, le-leb}
use Rattle.std.proofs.Math.Path.{refl}
use Rattle.std.proofs.lemmas.Bool.{lt-leb}
use Rattle.theory.specs.Table.{Table}
use Rattle.lines.specs.Limits.{max_bytes}
use Rattle.lines.specs.Lines.{Draft, flat, Lined, read_numbers}
use Rattle.lines.specs.Ranges.{lines_of}
use Rattle.sheet.specs.Sheet.{Read, read_sheet, outcome, print, in_front, slice_after}
use Rattle.sheet.specs.Sheet.Exact.{exact}
use Rattle.sheet.specs.Reads.{BadLine, UnfitLine, SheetOf, Reads, ReadsInto, refused, filled}
use Rattle.sheet.specs.Reads.Exact.{stops_read, bad-reads, unfit-reads, sheet_read, only, reads}

module _ (bs before : List ℕ) where
  -- a sheet with room for its numbers fills the slice
  slice_filled : (t : Table) → SheetOf bs t → length (flat (lines_of t)) ≤ length before → slice_after bs before ≡ in_front (flat (lines_of t)) before
  unfolding slice_after
  slice_filled t s h = rw (sheet_read bs t s, slice_after) (rw (le-leb (length (flat (lines_of t))) (length before) h) refl)

  -- a refusal leaves it as it is
  slice_refused : (o : ℕ × ℕ) → Reads bs (length before) o → (o.0 ≡ 0 → ⊥) → slice_after bs before ≡ before
  unfolding slice_after read_sheet
  slice_refused o (Reads.over h) n = rw (lt-leb (length bs) max_bytes h, slice_after) refl
  slice_refused o (Reads.bad k l s) n = rw (stops_read BadLine (λ x. Read.bad x) bad-reads bs k l s, slice_after) refl
  slice_refused o (Reads.unfit k l s) n = rw (stops_read UnfitLine (λ x. Read.unfit x) unfit-reads bs k l s, slice_after) refl
  slice_refused o (Reads.short t s h) n = rw (sheet_read bs t s, slice_after) (rw (lt-leb (length (flat (lines_of t))) (length before) h) refl)
  slice_refused o (Reads.good t s h) n = absurd (n refl)

  -- what the relation allows is the executable outcome
  pub only_into : (o : ℕ × ℕ) (after : List ℕ) → ReadsInto bs before o after → (outcome bs (length before) ≡ o) × (slice_after bs before ≡ after)
  only_into o after (refused a v r n) = (only bs (length before) (a, v) r, slice_refused (a, v) r n)
  only_into o after (filled t s h) = (only bs (length before) (0, length (flat (lines_of t))) (Reads.good t s h), slice_filled t s h)

  -- any two outcomes that the relation allows are equal
  pub unique_into : (o o' : ℕ × ℕ) (after after' : List ℕ) → ReadsInto bs before o after → ReadsInto bs before o' after' → (o ≡ o') × (after ≡ after')
  unique_into o o' after after' r r' =
      let (a, b) = only_into o after r in
      let (c, d) = only_into o' after' r' in
      (sym a ∙ c, sym b ∙ d)

  kept : (a v : ℕ) → Reads bs (length before) (a, v) → (a ≡ 0 → ⊥) → ReadsInto bs before (a, v) (slice_after bs before)
  kept a v r n = subst (ReadsInto bs before (a, v)) (sym (slice_refused (a, v) r n)) (refused a v r n)

  into : (o : ℕ × ℕ) → Reads bs (length before) o → ReadsInto bs before o (slice_after bs before)
  into o (Reads.over h) = kept 10 0 (Reads.over h) (λ e. omega arith)
  into o (Reads.bad k l s) = kept 11 k (Reads.bad k l s) (λ e. omega arith)
  into o (Reads.unfit k l s) = kept 12 k (Reads.unfit k l s) (λ e. omega arith)
  into o (Reads.short t s h) = kept 13 (length (flat (lines_of t))) (Reads.short t s h) (λ e. omega arith)
  into o (Reads.good t s h) = subst (ReadsInto bs before (0, length (flat (lines_of t)))) (sym (slice_filled t s h)) (filled t s h)

  -- the relation holds of the executable outcome: there is one for every sheet and every slice
  pub reads_into : ReadsInto bs before (outcome bs (length before)) (slice_after bs before)
  reads_into = into (outcome bs (length before)) (reads bs (length before))

-- the outcome that was computed
pub computed : (bs before : List ℕ) (o : ℕ × ℕ) (after : List ℕ) → outcome bs (length before) ≡ o → slice_after bs before ≡ after → ReadsInto bs before o after
computed bs before o after p q = subst (ReadsInto bs before o) q (subst (λ x. ReadsInto bs before x (slice_after bs before)) p (reads_into bs before))

-- the reader finds numbers ns exactly if the lines of ns fit and the bytes are `print ns`
pub into_exact : (bs before ns : List ℕ) → length ns ≤ length before →
    ReadsInto bs before (0, length ns) (in_front ns before) ↔
    ((print ns ≡ bs) × ((d : Draft) × (read_numbers ns ≡ Lined.fine d)) × (length bs ≤ max_bytes))
unfolding outcome slice_after
into_exact bs before ns l = (there, back)
  where
    there : ReadsInto bs before (0, length ns) (in_front ns before) → (print ns ≡ bs) × ((d : Draft) × (read_numbers ns ≡ Lined.fine d)) × (length bs ≤ max_bytes)
    there r = at (read_sheet bs) refl
      where
        o : outcome bs (length before) ≡ (0, length ns)
        o = (only_into bs before (0, length ns) (in_front ns before) r).0

        s : slice_after bs before ≡ in_front ns before
        s = (only_into bs before (0, length ns) (in_front ns before) r).1

        no_zero : {A : Type 0} (a v : ℕ) → ◌≡◌ {A = ℕ × ℕ} (a, v) (0, length ns) → (a ≡ 0 → ⊥) → A
        no_zero a v e n = absurd (n (ap (λ (x : ℕ × ℕ). x.0) e))

        at : (q : Read) → read_sheet bs ≡ q → (print ns ≡ bs) × ((d : Draft) × (read_numbers ns ≡ Lined.fine d)) × (length bs ≤ max_bytes)
        at Read.over p = no_zero 10 0 (rw (p, outcome) at o) (λ e. omega arith)
        at (Read.bad n) p = no_zero 11 n (rw (p, outcome) at o) (λ e. omega arith)
        at (Read.unfit n) p = no_zero 12 n (rw (p, outcome) at o) (λ e. omega arith)
        at (Read.good ms d) p = room (leb (length ms) (length before)) refl
          where
            room : (b : Bool) → leb (length ms) (length before) ≡ b → (print ns ≡ bs) × ((d : Draft) × (read_numbers ns ≡ Lined.fine d)) × (length bs ≤ max_bytes)
            room false q = no_zero 13 (length ms) (rw q at (rw (p, outcome) at o)) (λ e. omega arith)
            room true q =
                let c : length ms ≡ length ns = ap (λ (x : ℕ × ℕ). x.1) (rw q at (rw (p, outcome) at o)) in
                let f : in_front ms before ≡ in_front ns before = rw q at (rw (p, slice_after) at s) in
                let e : ms ≡ ns =
                sym (take_at ms (drop (length ms) before) (length ns) c) ∙ ap (take (length ns)) f ∙ take_at ns (drop (length ns) before) (length ns) refl in
                let (x, y, z) = (exact bs ns d).0 (p ∙ ap (λ (m : List ℕ). Read.good m d) e) in
                (x, (d, y), z)

    back : (print ns ≡ bs) × ((d : Draft) × (read_numbers ns ≡ Lined.fine d)) × (length bs ≤ max_bytes) → ReadsInto bs before (0, length ns) (in_front ns before)
    back (p, (d, q), z) =
        let r = (exact bs ns d).1 (p, q, z) in
        let b = le-leb (length ns) (length before) l in
        computed bs before (0, length ns) (in_front ns before) (rw (r, outcome) (rw b refl)) (rw (r, slice_after) (rw b refl))
