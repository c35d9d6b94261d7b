-- Laws on the shape that comes next, and on what a test told.
use Prim.Native.Nat.{ℕ, zero, suc, ◌-◌, ◌<◌}
use native.Mathlib.Omega.{arith}
use mathlib.Core.Path.{◌≡◌, refl, sym, ◌∙◌}
use mathlib.Core.Bool.{Bool, true, false}
use mathlib.Core.List.{List}
use lib.ListN.{length}
use Rattle.lines.specs.Limits.{max_rules, max_right}
use Rattle.lines.specs.Lines.{less}
use Rattle.lines.specs.Ranges.{Within}
use Rattle.lines.specs.Shape.{fits_shape}
use Rattle.lines.specs.Shape.Accepting.{rule_fits, rule_count}
use Rattle.lines.specs.declared.shape.Due.TheVariants.{Rule}
use Rattle.lines.specs.declared.shape.Shape.{Shape}

-- one less, by a difference
pub less_one : (k : ℕ) → k - 1 ≡ less k
less_one zero = refl
less_one (suc k) = omega arith

-- what a test told: it failed, or it passed
pub told_false : {r b : Bool} → r ≡ b → r ≡ false → b ≡ false
told_false e n = sym e ∙ n

pub told_true : {r b : Bool} → r ≡ b → r ≡ true → b ≡ true
told_true e n = sym e ∙ n

-- a rule line that fits has a place in the lengths, and few numbers
pub rule_known : (s : Shape) (ls xs : List ℕ) → s.due ≡ Rule → fits_shape s ls xs ≡ true → (s.rules < max_rules) × Within 2 (suc max_right) (length xs)
rule_known s ls xs e f = let (p, q) = rule_fits s ls xs e f in (p, rule_count s.terms s.nonterms xs q)
