-- The shapes before the lines of the states: which lines are due there, and what is known where the first state line is due.
use Rattle.std.specs.Prelude.{Some}
use Prim.Native.Nat.{ℕ, zero, suc, ◌≤◌}
use native.Mathlib.Omega.{arith}
use mathlib.Core.Path.{◌≡◌, refl, sym, ap, subst}
use mathlib.Core.Bool.{true, false}
use mathlib.Core.List.{List}
use lib.ListN.{length}
use Rattle.theory.proofs.Basics.{both}
use Rattle.lines.specs.Basics.{impossible}
use Rattle.lines.specs.Limits.{max_numbers, max_states}
use Rattle.lines.specs.Lines.{is_end, less}
use Rattle.lines.specs.Lines.Fits.{at, counts, within, fits_one}
use Rattle.lines.specs.Ranges.Tests.{within-says}
use Rattle.lines.specs.Shape.{start_shape, heading_shape, body_shape, due_while, fits_due, fits_shape, next_shape, accepted}
use Rattle.lines.specs.Shape.Accepting.{next_fit}
use Rattle.lines.specs.Shape.Shaped.{due_of}
use Rattle.lines.specs.declared.shape.Due.{Due}
use Rattle.lines.specs.declared.shape.Due.TheVariants.{Terms, Nonterms, Rules, Rule, States, State, Item, Go, End}
use Rattle.lines.specs.declared.shape.Shape.{Shape}
use Rattle.table.specs.declared.Sizes.{Sizes}
use Rattle.table.specs.Lined.{sizes_of}
use Rattle.table.specs.States.{in_state, Within}
use Rattle.table.specs.Walk.{Walked}

-- what is known by the line that is due: none of a state is, and where the first state line is nothing of a state was read
abbrev pub Before : Shape → Due → Type 0
Before s Terms = Unit
Before s Nonterms = Unit
Before s Rules = Unit
Before s Rule = Unit
Before s States = Unit
Before s State = s ≡ in_state (sizes_of s) s.states 0 0 0
Before s Item = ⊥
Before s Go = ⊥
Before s End = ⊥

-- a shape before the states' lines
pub record Heading (s : Shape) : Type 0 where
  pub before : Before s s.due

-- nothing was read
pub start_heading : Heading start_shape
start_heading = record { before = tt }

-- where a state line is due the states begin
states-begin : {s : Shape} → Heading s → s.due ≡ State → s ≡ in_state (sizes_of s) s.states 0 0 0
states-begin {s} h e = subst (Before s) e h.before

-- some line is due
pub heading_missing : {s : Shape} → Heading s → is_end (due_of s.due) ≡ false
unfolding is_end
heading_missing {s} h = go s.due h.before
  where
    go : (w : Due) → Before s w → is_end (due_of w) ≡ false
    go Terms k = refl
    go Nonterms k = refl
    go Rules k = refl
    go Rule k = refl
    go States k = refl
    go State k = refl
    go Item k = absurd k
    go Go k = absurd k
    go End k = absurd k

-- after a rule line
rule_heading : (k t n r : ℕ) → Heading (heading_shape (due_while k Rule States) t n r k)
rule_heading zero t n r = record { before = tt }
rule_heading (suc k) t n r = record { before = tt }

-- after the count of the states
states_heading : (s : Shape) (m : ℕ) → 1 ≤ m → Heading (body_shape State s m m 0 0 0)
unfolding in_state
states_heading s zero h = impossible (omega arith)
states_heading s (suc m) h = record { before = refl }

-- a line that fits keeps the shape before the states' lines, as long as it is not a state line
pub next_heading : {s : Shape} → Heading s → (s.due ≡ State → ⊥) → (lengths xs : List ℕ) (s' : Shape) →
    accepted s lengths xs ≡ Some s' → Heading s'
unfolding next_shape fits_due
next_heading {s} h n lengths xs s' a =
    let (f, e) = next_fit s lengths xs s' a in
    subst Heading e (go s.due refl h.before n f)
  where
    go : (w : Due) → s.due ≡ w → Before s w → (w ≡ State → ⊥) → fits_shape s lengths xs ≡ true →
        Heading (next_shape s xs)
    go Terms e b k f = rw (e, next_shape) (record { before = tt })
    go Nonterms e b k f = rw (e, next_shape) (record { before = tt })
    go Rules e b k f = rw (e, next_shape) (record { before = tt })
    go Rule e b k f = rw (e, next_shape) (rule_heading (less s.rules_left) s.terms s.nonterms (suc s.rules))
    go States e b k f =
        let g : fits_one max_states xs ≡ true = rw (e, fits_due) at f in
        rw (e, next_shape) (states_heading s (at xs 0) (within-says 1 max_states (at xs 0) (both (counts 1 xs) (within 1 max_states (at xs 0)) g).1).0)
    go State e b k f = absurd (k refl)
    go Item e b k f = absurd b
    go Go e b k f = absurd b
    go End e b k f = absurd b

-- ---- the states' lines

module _ {ns : List ℕ} {p line : ℕ} {s : Shape} {lengths ra sa : List ℕ} (h : Walked ns p line s lengths ra sa) where
  -- the states' lines can be read: all is within the limits
  pub walk_within : length ns ≤ max_numbers → (z : Sizes) → z ≡ sizes_of s → Within ns z
  walk_within m z e =
      let b = h.shaped.bounded in
      let t = ap (λ (x : Shape). x.terms) h.shaped.same in
      let r = ap (λ (x : Shape). x.rules) h.shaped.same in
      let c = ap (λ (x : Shape). x.states) h.shaped.same in
      subst (Within ns) (sym e) (record {
        few = m;
        terms_in = let i = b.terms_in in omega arith;
        rules_in = let i = b.rules_in in omega arith;
        states_in = let i = b.states_in in omega arith;
      })

  -- where a state line is due all states are left
  pub walk_states : Heading s → s.due ≡ State → (z : Sizes) → z ≡ sizes_of s → Walked ns p line (in_state z z.states 0 0 0) lengths ra sa
  walk_states a d z e =
      subst (λ x. Walked ns p line (in_state x x.states 0 0 0) lengths ra sa) (sym e) (subst (λ x. Walked ns p line x lengths ra sa) (states-begin a d) h)
