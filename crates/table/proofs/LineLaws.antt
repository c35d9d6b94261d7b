-- Laws of one line that is due, of which it is known how many numbers it has: where it does not fit the reading stops, and where it fits it goes on.
use Rattle.std.specs.Prelude.{Option, Some, None, Result, Ok, Err, ok_or}
use Prim.Native.Nat.{ℕ, suc, ◌+◌, ◌-◌, ◌≤◌, ◌<◌}
use native.Mathlib.Omega.{arith}
use native.Mathlib.Decide.{dec_le, dec_lt}
use mathlib.Core.Path.{◌≡◌, refl, sym, ap, ◌∙◌}
use mathlib.Core.Bool.{true, false, and-false}
use mathlib.Core.List.{List, []}
use lib.ListN.{length, get_or, take, drop, length-drop}
use lib.Seq.{length-take-le}
use lib.Dec.{ltb}
use Rattle.lines.specs.Limits.{max_rules, max_numbers}
use Rattle.lines.specs.Lines.{is_end, Lined, read_numbers}
use Rattle.lines.specs.Shape.{fits_due, fits_shape, next_shape, lengths_with, lengths_after, accepted}
use Rattle.lines.specs.Shape.Accepting.{fit_next, fit_after, misfit_unfit}
use Rattle.lines.specs.Shape.Shaped.{due_of}
use Rattle.lines.specs.declared.shape.Due.{Due}
use Rattle.lines.specs.declared.shape.Due.TheVariants.{Terms, Nonterms, Rules, Rule, States, State, Item, Go, End}
use Rattle.lines.specs.declared.shape.Shape.{Shape}
use Rattle.table.specs.Lined.{rules_with, states_with}
use Rattle.table.specs.Walk.{Walked}
use Rattle.table.specs.States.{numbers_at, Whole}
use Rattle.table.proofs.Walked.{walk_short, walk_unfit, walk_next, walk_missing, walk_is}

-- the error told where there is no value is the one given
pub err_given : {A E : Type 0} {o : Option A} {d e : E} → Err e ≡ ok_or o d → o ≡ None → e ≡ d
err_given {A} {E} {o} {d} {e} v n = ap told (v ∙ ap (λ (x : Option A). ok_or x d) n)
  where
    told : Result A E → E
    told (Ok x) = d
    told (Err y) = y

-- ---- one line

-- a line without numbers fits nowhere
pub empty_unfit : (s : Shape) (ls : List ℕ) → fits_shape s ls [] ≡ false
unfolding fits_due
empty_unfit s ls = go s.due refl
  where
    go : (w : Due) → s.due ≡ w → fits_shape s ls [] ≡ false
    go Terms e = rw (e, fits_due) refl
    go Nonterms e = rw (e, fits_due) refl
    go Rules e = rw (e, fits_due) refl
    go Rule e = rw (e, fits_due) (and-false (ltb s.rules max_rules))
    go States e = rw (e, fits_due) refl
    go State e = rw (e, fits_due) refl
    go Item e = rw (e, fits_due) refl
    go Go e = rw (e, fits_due) refl
    go End e = rw (e, fits_due) refl

-- where none is due no line fits
pub end_unfit : (s : Shape) (ls xs : List ℕ) → s.due ≡ End → fits_shape s ls xs ≡ false
unfolding fits_due
end_unfit s ls xs e = rw (e, fits_due) refl

-- a place has a whole line or none
pub whole_or_not : (ns : List ℕ) (p : ℕ) → Dec (Whole ns p)
whole_or_not ns p = go (dec_lt p (length ns)) (dec_le (get_or ns p 0) (length ns - (p + 1)))
  where
    go : Dec (p < length ns) → Dec (get_or ns p 0 ≤ length ns - (p + 1)) → Dec (Whole ns p)
    go (yes a) (yes b) = yes (a, b)
    go (yes a) (no b) = no (λ h. b h.1)
    go (no a) d = no (λ h. a h.0)

-- a whole line has as many numbers as its count says
pub numbers_long : (ns : List ℕ) (p : ℕ) → Whole ns p → {xs : List ℕ} → xs ≡ numbers_at ns p → length xs ≡ get_or ns p 0
numbers_long ns p (a, b) q =
    let d = length-drop (suc p) ns in
    ap (λ (l : List ℕ). length l) q ∙ length-take-le (get_or ns p 0) (drop (suc p) ns) (omega arith)

-- it ends inside
pub line_inside : (ns : List ℕ) (p : ℕ) → Whole ns p → {xs : List ℕ} → xs ≡ numbers_at ns p → p + (1 + length xs) ≤ length ns
line_inside ns p w q = let (a, b) = w in let e = numbers_long ns p w q in omega arith

-- its numbers, cut out of what comes after its count
pub part_is : (ns : List ℕ) (p n : ℕ) → n ≡ get_or ns p 0 → take n (drop (p + 1) ns) ≡ numbers_at ns p
part_is ns p n e =
    let b : p + 1 ≡ suc p = omega arith in
    λ i. take (e i) (drop (b i) ns)

-- ---- the line that is due

module _ {ns : List ℕ} {p line : ℕ} {s : Shape} {lengths ra sa : List ℕ} (h : Walked ns p line s lengths ra sa) where
  -- no whole line stands there, where one is due
  pub line-broken : length ns ≤ max_numbers → ¬ Whole ns p → is_end (due_of s.due) ≡ false → read_numbers ns ≡ Lined.unfit line
  line-broken few w e = go (dec_lt p (length ns))
    where
      go : Dec (p < length ns) → read_numbers ns ≡ Lined.unfit line
      go (yes l) = walk_short h l few (short (dec_le (get_or ns p 0) (length ns - (p + 1))))
        where
          short : Dec (get_or ns p 0 ≤ length ns - (p + 1)) → length ns - (p + 1) < get_or ns p 0
          short (yes k) = absurd (w (l, k))
          short (no k) = omega arith
      go (no l) = let i = h.inside in walk_missing h (omega arith) few e

  -- a line too many stands where none is due
  pub line-over : length ns ≤ max_numbers → p < length ns → s.due ≡ End → read_numbers ns ≡ Lined.unfit line
  line-over few l e = go (dec_le (get_or ns p 0) (length ns - (p + 1)))
    where
      go : Dec (get_or ns p 0 ≤ length ns - (p + 1)) → read_numbers ns ≡ Lined.unfit line
      go (yes k) = walk_unfit h l few k (numbers_at ns p) refl (misfit_unfit s lengths (numbers_at ns p) (end_unfit s lengths (numbers_at ns p) e))
      go (no k) = walk_short h l few (omega arith)

  -- the line does not fit
  pub line-unfit : length ns ≤ max_numbers → Whole ns p → (xs : List ℕ) → xs ≡ numbers_at ns p → fits_shape s lengths xs ≡ false →
      read_numbers ns ≡ Lined.unfit line
  line-unfit few w xs q f = walk_unfit h w.0 few w.1 xs q (misfit_unfit s lengths xs f)

  -- no number stands there, where a line is due: no whole line, or one of count 0
  pub line-none : length ns ≤ max_numbers → (Whole ns p → get_or ns p 0 ≡ 0) → is_end (due_of s.due) ≡ false →
      read_numbers ns ≡ Lined.unfit line
  line-none few z e = go (whole_or_not ns p)
    where
      go : Dec (Whole ns p) → read_numbers ns ≡ Lined.unfit line
      go (yes w) = line-unfit few w [] (sym (ap (λ (m : ℕ). take m (drop (suc p) ns)) (z w))) (empty_unfit s lengths)
      go (no w) = line-broken few w e

  -- the line is accepted
  pub line-next : Whole ns p → (xs : List ℕ) → xs ≡ numbers_at ns p → (s' : Shape) → accepted s lengths xs ≡ Some s' →
      Walked ns (p + (1 + length xs)) (line + 1) s' (lengths_after s lengths xs) (rules_with s ra p) (states_with s sa p)
  line-next w xs q s' a =
      let e = numbers_long ns p w q in
      walk_is (walk_next h w.0 w.1 xs q s' a) (omega arith) refl refl refl refl

  -- the line fits
  pub line-fits : Whole ns p → (xs : List ℕ) → xs ≡ numbers_at ns p → fits_shape s lengths xs ≡ true →
      Walked ns (p + (1 + length xs)) (line + 1) (next_shape s xs) (lengths_with s lengths xs) (rules_with s ra p) (states_with s sa p)
  line-fits w xs q f = walk_is (line-next w xs q (next_shape s xs) (fit_next s lengths xs f)) refl refl (fit_after s lengths xs f) refl refl
