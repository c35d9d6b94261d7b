-- `joined` meets its contract: three refusals, or the print.
use Rattle.forest.specs.Prints.{JoinsInto}
use native.Mathlib.Omega.{arith}
use mathlib.Core.Bool.{true}
use mathlib.Core.List.{List}
use mathlib.Core.Path.{subst⁻¹}
use Prim.Native.Nat.{ℕ}
use borrow.Author.Rules.{rules}
use Rattle.forest.proofs.paths.joined.Goals as goal

pub returns-then-first-gt-MAX_TAIL : goal.returns-then-first-gt-MAX_TAIL
returns-then-first-gt-MAX_TAIL c = JoinsInto.refused (λ f. omega (arith, c.if-first-gt-MAX_TAIL.true, f.in_first))

pub returns-then-second-gt-MAX_TAIL : goal.returns-then-second-gt-MAX_TAIL
returns-then-second-gt-MAX_TAIL c = JoinsInto.refused (λ f. omega (arith, c.if-second-gt-MAX_TAIL.true, f.in_second))

pub returns-then-out-first : goal.returns-then-out-first
returns-then-out-first c = JoinsInto.refused (λ f. omega (arith, c.if-out-first.true, f.places))

pub returns : goal.returns
returns c =
    let a = c.args in
    subst⁻¹ (λ (l : List ℕ). JoinsInto a.first.now a.second.now a.out.now true l) c.merge.ensures
    (JoinsInto.joined (record { in_first = search rules; in_second = search rules; places = search rules }))
