-- What `accepted` and `lengths_after` answer, said by whether the line fits; and what is known of a rule line that fits.
use Rattle.std.specs.Prelude.{ℕ, suc, ◌<◌, ◌≡◌, Bool, false, ◌&&◌, List, length, set, ltb, Some, None}
use Rattle.std.proofs.Math.Path.{refl}
use Rattle.std.proofs.Math.Bool.{true}
use Rattle.std.proofs.Common.{ltb-true}
use Rattle.theory.proofs.Basics.{both}
use Rattle.lines.specs.Basics.{never}
use Rattle.lines.specs.Limits.{max_rules, max_right}
use Rattle.lines.specs.Lines.{less}
use Rattle.lines.specs.Lines.Fits.{at, within, is_nonterm, fits_rule}
use Rattle.lines.specs.Ranges.{Within}
use Rattle.lines.specs.Ranges.Tests.{within-says}
use Rattle.lines.specs.Shape.{fits_due, fits_shape, next_shape, accepted, lengths_with, lengths_after}
use Rattle.lines.specs.declared.shape.Due.TheVariants.{Rule}
use Rattle.lines.specs.declared.shape.Shape.{Shape}

module _ (s : Shape) (ls xs : List ℕ) where
  -- a line that fits is accepted, and its length is kept
  pub fit_next : fits_shape s ls xs ≡ true → accepted s ls xs ≡ Some (next_shape s xs)
  unfolding accepted
  fit_next p = rw (p, accepted) refl

  pub fit_after : fits_shape s ls xs ≡ true → lengths_after s ls xs ≡ lengths_with s ls xs
  unfolding lengths_after
  fit_after p = rw (p, lengths_after) refl

  -- a line that does not fit changes nothing
  pub misfit_unfit : fits_shape s ls xs ≡ false → accepted s ls xs ≡ None
  unfolding accepted
  misfit_unfit p = rw (p, accepted) refl

  pub misfit_after : fits_shape s ls xs ≡ false → lengths_after s ls xs ≡ ls
  unfolding lengths_after
  misfit_after p = rw (p, lengths_after) refl

  -- the answer tells whether the line fits
  pub next_fit : (s' : Shape) → accepted s ls xs ≡ Some s' → (fits_shape s ls xs ≡ true) × (next_shape s xs ≡ s')
  next_fit s' e = go (fits_shape s ls xs) refl
    where
      go : (b : Bool) → fits_shape s ls xs ≡ b → (fits_shape s ls xs ≡ true) × (next_shape s xs ≡ s')
      go true p = let q = fit_next p in (p, cc)
      go false p = let q = misfit_unfit p in never cc

  pub unfit_misfit : accepted s ls xs ≡ None → fits_shape s ls xs ≡ false
  unfit_misfit e = go (fits_shape s ls xs) refl
    where
      go : (b : Bool) → fits_shape s ls xs ≡ b → fits_shape s ls xs ≡ false
      go true p = let q = fit_next p in never cc
      go false p = p

  -- at a rule line the lengths get the right side's
  pub rule_after : s.due ≡ Rule → lengths_with s ls xs ≡ set ls s.rules (less (length xs))
  unfolding lengths_with
  rule_after e = rw (e, lengths_with) refl

  -- a rule line that fits has a place in the lengths, and a left side and 1 to 8 symbols
  pub rule_fits : s.due ≡ Rule → fits_shape s ls xs ≡ true → (s.rules < max_rules) × (fits_rule s.terms s.nonterms xs ≡ true)
  unfolding fits_due
  rule_fits e f =
      let h : (ltb s.rules max_rules && fits_rule s.terms s.nonterms xs) ≡ true = rw (e, fits_due) at f in
      let (p, q) = both (ltb s.rules max_rules) (fits_rule s.terms s.nonterms xs) h in
      (ltb-true s.rules max_rules p, q)

-- how many numbers a rule line has
pub rule_count : (t n : ℕ) (xs : List ℕ) → fits_rule t n xs ≡ true → Within 2 (suc max_right) (length xs)
unfolding fits_rule
rule_count t n xs f =
    let (p, q) = both (within 2 (suc max_right) (length xs) && is_nonterm t n (at xs 0)) _ f in
    within-says 2 (suc max_right) (length xs) (both (within 2 (suc max_right) (length xs)) _ p).0
