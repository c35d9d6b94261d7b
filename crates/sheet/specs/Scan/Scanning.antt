-- Laws of the pass: reading from here on, with what was read so far, is reading the whole sheet; and what was read so far is kept.
use Rattle.std.specs.Prelude.{ℕ, ◌+◌, ◌-◌, ◌*◌, ◌≤◌, ◌<◌, ◌≡◌, refl, Bool, true, false, length, take, drop}
use Rattle.std.specs.Prelude.{get_or, set, Result, Ok, Err}
use Rattle.std.proofs.Common.{arith, add-one, ◌∙◌, append_assoc, length-append, length-set, length-take-le}
use Rattle.std.proofs.Common.{take-suc, take_at, drop_at}
use Rattle.std.proofs.Math.Path.{sym, ap, subst}
use Rattle.std.proofs.Math.Option.{none}
use mathlib.Core.List.{List, [], ◌∷◌, ◌++◌}
use Rattle.std.proofs.lemmas.List.{nil_from_length}
use Rattle.lines.specs.Limits.{max_rules}
use Rattle.lines.specs.Lines.{Draft, start, is_end, fits, next as next_of, accept}
use Rattle.lines.specs.Lines.Numbers.{accept-refuses}
use Rattle.lines.specs.Ranges.Bounds.{Bounded, fits-slight}
use Rattle.lines.specs.Shape.{start_shape, fits_shape, next_shape, lengths_with}
use Rattle.lines.specs.Shape.Accepting.{fit_next, fit_after, misfit_unfit}
use Rattle.lines.specs.Shape.Shaped.{due_of, Shaped, start-shaped, step_next, step_unfit, due-same}
use Rattle.lines.specs.declared.shape.Shape.{Shape}
use Rattle.std.specs.Prelude.{Some}
use Rattle.sheet.specs.Sheet.{Read, sheet_at}
use Rattle.sheet.specs.Sheet.Steps.{at_end, at_missing}
use Rattle.sheet.specs.Text.{has, line_of, Words, Refused, Written, refused_at}
use Rattle.sheet.specs.Text.Rooms.{put_count}
use Rattle.sheet.specs.Text.DueLines.{sheet_bad, sheet_unfit, sheet_fit}
use Rattle.sheet.specs.Scan.{scan_of, Kept}
use Rattle.sheet.specs.declared.text.LineError.{LineError}
use Rattle.sheet.specs.declared.ReadError.{ReadError}
use Rattle.lines.specs.declared.shape.Due.{Due}
use Rattle.lines.specs.declared.shape.Due.TheVariants.{Terms, Nonterms, Rules, Rule, States, State, Item, Go, End}

-- numbers above 16 bits fit no line
big_unfit : (d : Draft) (xs : List ℕ) → Bounded d → (Words xs → ⊥) → accept d xs ≡ none
big_unfit d xs b n = at (fits d xs) refl
  where
    at : (f : Bool) → fits d xs ≡ f → accept d xs ≡ none
    at false p = accept-refuses d xs p
    at true p = absurd (n (λ x m. let l = (fits-slight d xs b p).1 x m in omega arith))

-- where a line is due
some-due : (d : Due) → (d ≡ Due.End → ⊥) → is_end (due_of d) ≡ false
unfolding is_end
some-due Terms h = refl
some-due Nonterms h = refl
some-due Rules h = refl
some-due Rule h = refl
some-due States h = refl
some-due State h = refl
some-due Item h = refl
some-due Go h = refl
some-due End h = absurd (h refl)

-- what is found of a sheet, with the numbers of one that is read at the front of an array
abbrev pub Found : List ℕ → Result ℕ ReadError → List ℕ → Type 0
Found bs r room = (r ≡ scan_of (sheet_at 0 [] start bs)) × Kept (sheet_at 0 [] start bs) room

-- the lines before those that are left were taken in, and their numbers stand at the front of the array
pub record Scanning (bs : List ℕ) (shape : Shape) (lengths kept rest : List ℕ) (line w : ℕ) : Type 0 where
  pub room : length bs ≤ 2 * length kept
  -- each line has a byte, and each number two
  pub lines_few : line + length rest ≤ length bs
  pub half : 2 * w + length rest ≤ length bs
  pub draft : Draft
  pub shaped : Shaped shape lengths draft
  pub front : List ℕ
  pub placed : w ≡ length front
  pub held : take w kept ≡ front
  pub left : sheet_at line front draft rest ≡ sheet_at 0 [] start bs

-- at the start
pub scanning_start : (bs : List ℕ) (shape : Shape) (lengths kept : List ℕ) → shape ≡ start_shape → length lengths ≡ max_rules →
    length bs ≤ 2 * length kept → Scanning bs shape lengths kept bs 0 0
scanning_start bs shape lengths kept e l r = record {
  room = r;
  lines_few = omega arith;
  half = omega arith;
  draft = start;
  shaped = subst (λ s. Shaped s lengths start) (sym e) (start-shaped lengths l);
  front = [];
  placed = refl;
  held = refl;
  left = refl;
}

module _ {bs : List ℕ} {shape : Shape} {lengths kept rest : List ℕ} {line w : ℕ}
    (s : Scanning bs shape lengths kept rest line w) where
  -- what is told of the line that is due is told of the draft's
  its_line : line_of (due_of shape.due) rest ≡ line_of s.draft.due rest
  its_line = ap (λ d. line_of d rest) (due-same s.shaped)

  module _ (h : length rest ≡ 0) where
    none_left : sheet_at line s.front s.draft [] ≡ sheet_at 0 [] start bs
    none_left = ap (sheet_at line s.front s.draft) (sym (nil_from_length rest h)) ∙ s.left

    -- all lines were read
    pub scanning_end : shape.due ≡ Due.End → Found bs (Ok w) kept
    unfolding scan_of is_end
    scanning_end e =
        let p : is_end s.draft.due ≡ true = ap is_end (sym (due-same s.shaped) ∙ ap due_of e) in
        let q : Read.good s.front s.draft ≡ sheet_at 0 [] start bs =
        sym (at_end line s.front s.draft p) ∙ none_left in (
          ap (λ (k : ℕ). Ok k) s.placed ∙ ap scan_of q,
          subst (λ r. Kept r kept) q (ap (λ (k : ℕ). take k kept) (sym s.placed) ∙ s.held),
        )

    -- a line is missing
    pub scanning_missing : (shape.due ≡ Due.End → ⊥) → Found bs (Err (ReadError.Form line)) kept
    unfolding scan_of
    scanning_missing n =
        let p : is_end s.draft.due ≡ false = ap is_end (sym (due-same s.shaped)) ∙ some-due shape.due n in
        let q : Read.bad line ≡ sheet_at 0 [] start bs = sym (at_missing line s.front s.draft p) ∙ none_left in
        (ap scan_of q, subst (λ r. Kept r kept) q tt)

  -- a line does not fit
  unfit_found : (after ns more : List ℕ) → line_of (due_of shape.due) rest ≡ has ns more → accept s.draft ns ≡ none →
      Found bs (Err (ReadError.Range line)) after
  unfolding scan_of
  unfit_found after ns more e t =
      let q : Read.unfit line ≡ sheet_at 0 [] start bs =
      sym (sheet_unfit line s.front s.draft rest ns more (sym its_line ∙ e) t) ∙ s.left in
      (ap scan_of q, subst (λ r. Kept r after) q tt)

  module _ (h : 1 ≤ length rest) where
    -- there is a place for the count of the line's numbers, and behind it room for them
    pub scanning_room : (w < length kept) × (length rest ≤ 2 * (length kept - (w + 1)) + 2)
    scanning_room = let a = s.half in let b = s.room in (omega arith, omega arith)

    -- the line that is due is refused
    pub scanning_refused : (e : LineError) (after : List ℕ) → Refused (line_of (due_of shape.due) rest) e →
        Found bs (Err (refused_at e line)) after
    unfolding scan_of
    scanning_refused LineError.Form after t =
        let q : Read.bad line ≡ sheet_at 0 [] start bs =
        sym (sheet_bad line s.front s.draft rest h (sym its_line ∙ t)) ∙ s.left in
        (ap scan_of q, subst (λ r. Kept r after) q tt)
    scanning_refused LineError.Range after t =
        unfit_found after t.numbers t.rest t.value (big_unfit s.draft t.numbers s.shaped.bounded t.wide)

    module _ {before : List ℕ} {n : ℕ} {next held : List ℕ}
        (t : Written (line_of (due_of shape.due) rest) 2 rest before n next held)
        (after more : List ℕ) (p : after ≡ take (w + 1) kept ++ (held ++ more)) (l : length after ≡ length kept) where
      -- they are the part that is handed over
      pub scanning_part : take (w + 1 + n - (w + 1)) (drop (w + 1) after) ≡ t.numbers
      scanning_part =
          let r = scanning_room in
          let k : w + 1 + n - (w + 1) ≡ n = omega arith in
          let l : length (take (w + 1) kept) ≡ w + 1 = length-take-le (w + 1) kept (omega arith) in
          (λ i. take (k i) (drop (w + 1) (p i))) ∙ ap (take n) (drop_at (take (w + 1) kept) (held ++ more) (w + 1) l) ∙
          ap (λ (x : List ℕ). take n (x ++ more)) t.placed ∙ ap (take n) (append_assoc t.numbers _ more) ∙
          take_at t.numbers _ n (sym t.counted)

      module _ {xs : List ℕ} (i : xs ≡ t.numbers) where
        -- the line that is due does not fit
        pub scanning_unfit : fits_shape shape lengths xs ≡ false → Found bs (Err (ReadError.Range line)) after
        scanning_unfit f =
            unfit_found after xs next (t.value ∙ ap (λ (x : List ℕ). has x next) (sym i))
            (step_unfit xs s.shaped (misfit_unfit shape lengths xs f)).1

        -- the numbers so far with those of the line, before which their count is written
        grown : take (w + 1 + n) (set after w n) ≡ s.front ++ (length xs ∷ xs)
        grown =
            let r = scanning_room in
            let c : n ≡ length xs = t.counted ∙ ap (λ (x : List ℕ). length x) (sym i) in
            let f : take (w + 1) kept ≡ s.front ++ (get_or kept w 0 ∷ []) =
            ap (λ (k : ℕ). take k kept) (add-one w) ∙ take-suc kept w 0 r.0 ∙
            ap (λ (x : List ℕ). x ++ (get_or kept w 0 ∷ [])) s.held in
            let k : length s.front + 1 + n ≡ length (s.front ++ (n ∷ xs)) = simp length-append (omega arith) in
            let behind : List ℕ = drop (length xs) before ++ more in
            let q : held ++ more ≡ xs ++ behind =
            ap (λ (x : List ℕ). x ++ more) (t.placed ∙ ap (λ (x : List ℕ). x ++ drop (length x) before) (sym i)) ∙
            append_assoc xs (drop (length xs) before) more in
            (λ j. take (s.placed j + 1 + n) (set (p j) (s.placed j) n)) ∙
            (λ j. take (length s.front + 1 + n) (set (f j ++ q j) (length s.front) n)) ∙
            ap (take (length s.front + 1 + n))
            (put_count s.front (get_or kept w 0) n xs behind ∙ sym (append_assoc s.front (n ∷ xs) behind)) ∙
            take_at (s.front ++ (n ∷ xs)) behind (length s.front + 1 + n) (sym k) ∙
            ap (λ (m : ℕ). s.front ++ (m ∷ xs)) c

        -- the line that is due is taken in
        pub scanning_next : {then : Shape} {those : List ℕ} → fits_shape shape lengths xs ≡ true →
            then ≡ next_shape shape xs → those ≡ lengths_with shape lengths xs →
            Scanning bs then those (set after w n) next (line + 1) (w + 1 + n)
        scanning_next {then} {those} f p q =
            let (x, y, z) = step_next xs s.shaped (fit_next shape lengths xs f ∙ ap (λ (x : Shape). Some x) (sym p)) in
            let v : line_of (due_of shape.due) rest ≡ has xs next = t.value ∙ ap (λ (x : List ℕ). has x next) (sym i) in
            let c = t.half in
            record {
              room = let b = length-set after w n in let d = s.room in omega arith;
              lines_few = let g = s.lines_few in omega arith;
              half = let g = s.half in omega arith;
              draft = next_draft;
              shaped = subst (λ m. Shaped then m next_draft) (fit_after shape lengths xs f ∙ sym q) z;
              front = s.front ++ (length xs ∷ xs);
              placed =
                  let g = s.placed in let c = t.counted in let d = ap (λ (x : List ℕ). length x) i in
                  let l = length-append s.front (length xs ∷ xs) in omega arith;
              held = grown;
              left =
                  ap (λ (k : ℕ). sheet_at k (s.front ++ (length xs ∷ xs)) next_draft next) (add-one line) ∙
                  sym (sheet_fit line s.front s.draft rest xs next next_draft (sym its_line ∙ v) y) ∙ s.left;
            }
          where
            next_draft : Draft
            next_draft = next_of s.draft xs
