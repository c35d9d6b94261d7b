-- The check is right: for a table whose lines fit its answer is the table's.
use Prim.Native.Nat.{ℕ, zero, suc, ◌+◌, ◌≤◌, ◌<◌, zero-le}
use native.Mathlib.Omega.{arith}
use Rattle.std.specs.Prelude.{◌≡◌, refl, Bool, true, false, not, List}
use Rattle.std.proofs.Common.{sym, subst}
use Rattle.std.proofs.lemmas.Bool.{false≢true}
use Rattle.std.proofs.Math.Option.{Option, none, some}
use Rattle.theory.specs.Grammar.{Grammar, start, Nonterm, Begins, WellFormed, Reduced, NoRing}
use Rattle.theory.specs.Table.{Table, Fits, Conditions, count, has}
use Rattle.table.specs.Checks.{not-reduced, ring, broken, Lowest, NotReduced, OnRing, Keeps, Broken, KeptBefore, Checked, unreduced, ringed, fails, sound}
use Rattle.table.specs.Tests.Tell.{Tells, tells_as, refutes, tells_or, tells_not}
use Rattle.table.specs.Tests.Search.{Found, hit, miss, lowest-found}
use Rattle.table.specs.Conditions.Kept.{kept_none, kept_more}
use Rattle.table.specs.Run.{productives, reachables, units, firsts, can_begin, keeps, lowest_breaker, first_broken, lowest_fault, lowest_ring, checks}
use Rattle.table.specs.Run.Sets.{productives-tell, reachables-tell, units-tell, firsts-tell}
use Rattle.table.specs.Run.Conditions.{keeps-tells}

-- what is found by a test that tells a property is the lowest number with that property
found_lowest : {f : ℕ → Bool} {n a v : ℕ} {Q : ℕ → Type 0} → ((u : ℕ) → Q u → a ≤ u) → ((u : ℕ) → a ≤ u → u < a + n → Tells (f u) (Q u)) →
    Found f n a (some v) → Lowest Q v
found_lowest {n = n} {a = a} above tells (hit {v} l h e low) = record {
  has_it = (tells v l h).holds e;
  lowest = λ u k q. refutes (tells u (above u q) (omega arith)) (low u (above u q) k) q;
}

-- of the numbers from the start on, so many are nonterminals
in_range : (g : Grammar) (a : ℕ) → start g ≤ a → a < start g + g.nonterms → Nonterm g a
in_range g a l h = (l, omega arith)

-- and a nonterminal is among them
below_end : (g : Grammar) (a : ℕ) → Nonterm g a → a < start g + g.nonterms
below_end g a (l, h) = omega arith

-- ---- the grammar

-- the test by which the check finds a nonterminal at fault
abbrev faulty : Grammar → ℕ → Bool
faulty g a = elim (not (has (productives g) a)) [ true ↦ true | false ↦ not (has (reachables g) a) ]

module _ (g : Grammar) (W : WellFormed g) where
  -- it tells the fault
  tells_faulty : (a : ℕ) → Nonterm g a → Tells (faulty g a) (NotReduced g a)
  tells_faulty a n = tells_as (λ h. (n, h)) (λ (m, h). h)
      (tells_or (tells_not (productives-tell g W a n)) (tells_not (reachables-tell g W a n)))

  -- the test of a ring tells the ring
  tells_ring : (a : ℕ) → Nonterm g a → Tells (has (units g a) a) (OnRing g a)
  tells_ring a n = tells_as (λ u. (n, u)) (λ (m, u). u) (units-tell g W a a n)

  -- what is found is the lowest at fault
  fault_lowest : {v : ℕ} → Found (faulty g) g.nonterms (start g) (some v) → Lowest (NotReduced g) v
  fault_lowest x = found_lowest (λ u (n, h). n.0) (λ u l h. tells_faulty u (in_range g u l h)) x

  -- what is found is the lowest on a ring
  ring_lowest : {v : ℕ} → Found (λ a. has (units g a) a) g.nonterms (start g) (some v) → Lowest (OnRing g) v
  ring_lowest x = found_lowest (λ u (n, h). n.0) (λ u l h. tells_ring u (in_range g u l h)) x

  -- where no nonterminal is at fault the grammar is reduced
  no_fault : Found (faulty g) g.nonterms (start g) none → Reduced g
  no_fault (miss q) = record {
    productive = λ a n. (productives-tell g W a n).holds (neither (has (productives g) a) (has (reachables g) a) (q a n.0 (below_end g a n))).0;
    reachable = λ a n. (reachables-tell g W a n).holds (neither (has (productives g) a) (has (reachables g) a) (q a n.0 (below_end g a n))).1;
  }
    where
      neither : (p r : Bool) → elim (not p) as (λ b. Bool) [ true ↦ true | false ↦ not r ] ≡ false → (p ≡ true) × (r ≡ true)
      neither true true e = (refl, refl)
      neither true false e = absurd (false≢true (sym e))
      neither false r e = absurd (false≢true (sym e))

  -- where no nonterminal is on a ring there is none
  no_rings : Found (λ a. has (units g a) a) g.nonterms (start g) none → NoRing g
  no_rings (miss q) a n u = refutes (units-tell g W a a n) (q a n.0 (below_end g a n)) u

  -- the search for a fault
  found_fault : Found (faulty g) g.nonterms (start g) (lowest_fault g (productives g) (reachables g))
  unfolding lowest_fault
  found_fault = lowest-found (faulty g) g.nonterms (start g)

  -- the search for a ring
  found_ring : Found (λ a. has (units g a) a) g.nonterms (start g) (lowest_ring g)
  unfolding lowest_ring
  found_ring = lowest-found (λ a. has (units g a) a) g.nonterms (start g)

-- ---- the conditions

-- all conditions, from their numbers
pub conditions : {t : Table} → KeptBefore t 8 → Conditions t
conditions h = record {
  c1 = λ s. h 1 s (omega arith);
  c2 = λ s. h 2 s (omega arith);
  c3 = λ s. h 3 s (omega arith);
  c4 = λ s. h 4 s (omega arith);
  c5 = λ s. h 5 s (omega arith);
  c6 = λ s. h 6 s (omega arith);
  c7 = λ s. h 7 s (omega arith);
}

module _ (t : Table) (F : Fits t) (R : Reduced t.grammar) (N : NoRing t.grammar) (fs : List (List ℕ))
    (begins : (x a : ℕ) → Tells (can_begin fs x a) (Begins t.grammar x a)) where
  -- the test by which the check finds a state that breaks a condition
  abbrev breaks : ℕ → ℕ → Bool
  breaks k s = not (keeps t fs k s)

  -- it tells the break
  tells_breaks : (k s : ℕ) → s < count t → Tells (breaks k s) (Broken t k s)
  tells_breaks k s l = tells_as (λ h. (l, h)) (λ (m, h). h) (tells_not (keeps-tells t fs begins k s))

  -- the search for such a state
  found_breaker : (k : ℕ) → Found (breaks k) (count t) 0 (lowest_breaker t fs k)
  unfolding lowest_breaker
  found_breaker k = lowest-found (breaks k) (count t) 0

  -- what is found is the lowest that breaks it
  broken_lowest : (k : ℕ) {s : ℕ} → Found (breaks k) (count t) 0 (some s) → Lowest (Broken t k) s
  broken_lowest k x = found_lowest (λ u q. zero-le) (λ u l h. tells_breaks k u (omega arith)) x

  -- where no state breaks a condition each keeps it
  unbroken : (k : ℕ) → Found (breaks k) (count t) 0 none → (s : ℕ) → s < count t → Keeps t k s
  unbroken k (miss q) s l = (keeps-tells t fs begins k s).holds (positive (keeps t fs k s) (q s zero-le (omega arith)))
    where
      positive : (b : Bool) → not b ≡ false → b ≡ true
      positive true e = refl
      positive false e = absurd (false≢true (sym e))

  -- where the conditions before the k-th are kept, the search from there on is right
  first_broken-right : (n k : ℕ) → k + n ≡ 8 → KeptBefore t k → Checked t (first_broken t fs n k)
  unfolding first_broken
  first_broken-right zero k e h =
      let z : k ≡ 8 = omega arith in
      sound (record { fits = F; reduced = R; no_ring = N; conditions = conditions (subst (λ j. KeptBefore t j) z h) })
  first_broken-right (suc n) k e h = go (lowest_breaker t fs k) (found_breaker k) (first_broken-right n (suc k) (omega arith))
    where
      go : (o : Option ℕ) → Found (breaks k) (count t) 0 o → (KeptBefore t (suc k) → Checked t (first_broken t fs n (suc k))) →
          Checked t (elim o [ none ↦ first_broken t fs n (suc k) | some s ↦ broken k s ])
      go none x ih = ih (kept_more k h (unbroken k x))
      go (some s) x ih = fails R N (record { state = broken_lowest k x; before = h })

-- ---- the whole

-- The check answers what the table's answer is.
pub checks-right : (t : Table) → Fits t → Checked t (checks t)
unfolding checks
checks-right t F = go (lowest_fault g (productives g) (reachables g)) (found_fault g W)
  where
    g : Grammar
    g = t.grammar

    W : WellFormed g
    W = F.formed

    then : Reduced g → (o : Option ℕ) → Found (λ a. has (units g a) a) g.nonterms (start g) o →
        Checked t (elim o [ some v ↦ ring v | none ↦ first_broken t (firsts g) 7 1 ])
    then R none x = first_broken-right t F R (no_rings g W x) (firsts g) (firsts-tell g W R) 7 1 (omega arith) (kept_none t)
    then R (some v) x = ringed R (ring_lowest g W x)

    go : (o : Option ℕ) → Found (faulty g) g.nonterms (start g) o →
        Checked t (elim o [ some v ↦ not-reduced v | none ↦ elim (lowest_ring g) [ some v ↦ ring v | none ↦ first_broken t (firsts g) 7 1 ] ])
    go none x = then (no_fault g W x) (lowest_ring g) (found_ring g W)
    go (some v) x = unreduced (fault_lowest g W x)
