-- From the grammar's sets to its lowest fault: a nonterminal that is not productive or not reachable, and one on a unit ring.
use Prim.Native.Nat.{ℕ, ◌+◌, ◌-◌, ◌≤◌, ◌<◌, ◌^◌}
use native.Mathlib.Omega.{arith}
use native.Mathlib.Nat.{lt_of_lt_of_le}
use mathlib.Core.Path.{◌≡◌, sym, subst}
use mathlib.Core.Logic.{◌⊎◌, inl, inr, ⊎_elim}
use lib.Bits.{bit_and, and_le_r}
use lib.Pow.{pow_mono}
use Rattle.theory.specs.Grammar.{Grammar, Nonterm, Productive, Reachable, UnitTo, Reduced, NoRing}
use Rattle.lines.specs.Limits.{max_nonterms}
use Rattle.table.specs.Checks.{Lowest, NotReduced, OnRing}
use Rattle.table.specs.Sets.{set_size, In, SetOf}
use Rattle.table.specs.Notions.{nonterm}
use Rattle.table.proofs.Bits.{dec_in, LowestOut, and_both, both_and}

-- what two sets of few numbers share, and one more, is a number of 64 bits
pub shared_fits : (n a b : ℕ) → n ≤ max_nonterms → b < 2 ^ n → bit_and a b + 1 < 2 ^ set_size
shared_fits n a b l h =
    let u : b < 2 ^ max_nonterms = lt_of_lt_of_le h (pow_mono l) in
    omega (arith, and_le_r a b)

-- a nonterminal by its place
pub nonterm-of : (g : Grammar) (a : ℕ) → Nonterm g a → (k : ℕ) × (k < g.nonterms) × (nonterm g k ≡ a)
nonterm-of g a (l, u) = (a - g.terms - 1, omega arith, omega arith)

module _ (g : Grammar) (ps rs k : ℕ) (P : SetOf (λ j. Productive g (nonterm g j)) g.nonterms ps)
    (R : SetOf (λ j. Reachable g (nonterm g j)) g.nonterms rs) (o : LowestOut set_size (bit_and ps rs) k) where
  -- before the lowest that is not in both all are productive and reachable
  sound : (a : ℕ) → Nonterm g a → a < nonterm g k → Productive g a × Reachable g a
  sound a n l =
      let (j, b, e) = nonterm-of g a n in
      let (p, r) = and_both ps rs j (o.before j (omega arith)) in
      (subst (Productive g) e (P.holds j p), subst (Reachable g) e (R.holds j r))

  -- the lowest that is not in both is at fault
  pub fault_at : g.nonterms ≤ set_size → k < g.nonterms → Lowest (NotReduced g) (nonterm g k)
  fault_at w l = record { has_it = ((omega arith, omega arith), go (dec_in ps k)); lowest = below }
    where
      go : Dec (In ps k) → (Productive g (nonterm g k) → ⊥) ⊎ (Reachable g (nonterm g k) → ⊥)
      go (yes i) = inr (λ r. o.this (omega arith) (both_and ps rs k i (R.shows k l r)))
      go (no n) = inl (λ p. n (P.shows k l p))

      below : (u : ℕ) → u < nonterm g k → NotReduced g u → ⊥
      below u h (n, f) = let (p, r) = sound u n h in ⊎_elim (λ x. x p) (λ x. x r) f

  -- where it is no nonterminal there is no fault
  pub fault_none : g.nonterms ≤ k → Reduced g
  fault_none l = record { productive = λ a n. (sound a n (omega arith)).0; reachable = λ a n. (sound a n (omega arith)).1 }

module _ (g : Grammar) (k : ℕ) (h : (j : ℕ) → j < k → UnitTo g (nonterm g j) (nonterm g j) → ⊥) where
  -- no nonterminal before is on a ring
  before : (a : ℕ) → OnRing g a → a < nonterm g k → ⊥
  before a (n, u) l = let (j, b, e) = nonterm-of g a n in h j (omega arith) (subst (λ x. UnitTo g x x) (sym e) u)

  -- the first that is on a ring is the lowest
  pub ring_at : k < g.nonterms → UnitTo g (nonterm g k) (nonterm g k) → Lowest (OnRing g) (nonterm g k)
  ring_at l u = record { has_it = ((omega arith, omega arith), u); lowest = λ a b r. before a r b }

  -- where all were tried there is no ring
  pub ring_none : k ≡ g.nonterms → NoRing g
  ring_none e a n u = before a (n, u) (omega arith)
