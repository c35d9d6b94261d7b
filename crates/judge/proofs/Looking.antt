-- The look-ups of a table as numbers are what the forest asks for, so the run can be called, and its judgement is the table's.
use mathlib.Core.Path.{◌≡◌, ◌∙◌, refl, ap, subst}
use mathlib.Core.Bool.{Bool, cond, ◌&&◌}
use mathlib.Core.Option.{Option, none, some}
use mathlib.Core.List.{List}
use Prim.Native.Nat.{ℕ, suc, ◌+◌, ◌*◌, ◌-◌, ◌≤◌}
use native.Mathlib.Omega.{arith}
use native.Mathlib.Nat.{mul-le-mul}
use lib.Dec.{eqb}
use borrow.Author.Tests.{ne_eqb}
use lib.ListN.{length, get_or}
use Rattle.theory.specs.Table.{Table, count}
use Rattle.lines.specs.Limits.{max_terms, max_nonterms}
use Rattle.lines.specs.Lines.{Lined}
use Rattle.lines.specs.Ranges.{InRange, FitLines}
use Rattle.lines.specs.Ranges.Fitting.{fits_read}
use Rattle.table.specs.Places.{table_in, found}
use Rattle.table.specs.Check.Exact.{one_table}
use Rattle.table.specs.LookUps.{coded, LookUps, fit, roomy, Looked}
use Rattle.table.proofs.Room.{Room, says_room}
use Rattle.forest.specs.Rows.{meant, Rows}
use Rattle.judge.specs.declared.Judgement.{Judgement}
use Rattle.judge.specs.Runs.{Says, CanRun, SomeRun, Runs}
use Rattle.judge.specs.Ready.{SomeReady, Roomy, Said}

-- an entry means what was coded there
meant-coded : (row : List ℕ) (i : ℕ) (o : Option ℕ) → get_or row i 0 ≡ coded o → meant row i ≡ o
unfolding meant coded
meant-coded row i none e = rw e refl
meant-coded row i (some v) e =
    let p : suc v - 1 ≡ v = omega arith in
    ap (λ (x : ℕ). cond (eqb x 0) none (some (x - 1))) e ∙ simp (ne_eqb (suc v) 0 (λ q. omega arith)) (ap {B = Option ℕ} some p)

-- entries enough for any table with so many states are enough for each
room_of : {t : Table} {m acts go : ℕ} → InRange t → m ≡ count t → Roomy m acts go → Room t.grammar.terms t.grammar.nonterms (count t) acts go
room_of {t} {m} R e (p, q) =
    let c = R.term_count.1 in
    let d = R.nonterm_count.1 in
    let a : t.grammar.terms * count t ≤ max_terms * m = mul-le-mul c (omega arith) in
    let g : suc (t.grammar.terms + t.grammar.nonterms) * count t ≤ (max_terms + max_nonterms + 1) * m = mul-le-mul {n₂ = max_terms + max_nonterms + 1} {m₂ = m} (omega arith) (omega arith) in
    (omega arith, omega arith)

-- the look-ups of a table within the ranges are those that the forest asks for
rows_of : (t : Table) (a b : ℕ) (acts go lens lefts : List ℕ) → InRange t → Room t.grammar.terms t.grammar.nonterms (count t) a b →
    LookUps t a b acts go lens lefts → Rows t acts go lens lefts
rows_of t a b acts go lens lefts R (p, q) H = record {
  act = record {
    each = λ y s l k. meant-coded acts (y * count t + s) _ (H.act.each y s l k);
    all = omega (arith, H.act.long);
  };
  goes = record {
    each = λ y s l k. meant-coded go (y * count t + s) _ (H.goes.each y s (omega arith) k);
    all = omega (arith, H.goes.long);
  };
  rules = record {
    right = H.right.each;
    left = H.left.each;
    all_lens = omega (arith, H.right.long, R.rule_count.1);
    all_lefts = omega (arith, H.left.long, R.rule_count.1);
  };
}

-- numbers whose lines fit are those of their table
table_in_law : {ns : List ℕ} {t : Table} → FitLines ns t → table_in ns ≡ t
unfolding table_in
table_in_law {ns} {t} f = ap found (fits_read ns t f)

-- what was built for the numbers of a table, where there was room, are its look-ups
looked : {ns a b c d acts go lens lefts : List ℕ} {r : Bool} {t : Table} → FitLines ns t →
    Room t.grammar.terms t.grammar.nonterms (count t) (length a) (length b) → Looked ns a b c d acts go lens lefts r →
    LookUps t (length a) (length b) acts go lens lefts
unfolding fit
looked {ns} {a} {b} {acts = acts} {go = go} {lens = lens} {lefts = lefts} {t = t} f room L =
    let e = ap (λ (l : Lined). fit l && roomy (table_in ns) (length a) (length b)) (fits_read ns t f) in
    let g = ap (λ (u : Table). roomy u (length a) (length b)) (table_in_law f) in
    let h = says_room t.grammar.terms t.grammar.nonterms (count t) (length a) (length b) room in
    subst (λ (u : Table). LookUps u (length a) (length b) acts go lens lefts) (table_in_law f) (L.built (L.told ∙ e ∙ g ∙ h))

module _ {ns tail : List ℕ} (w : List ℕ) {m : ℕ} (S : SomeReady ns tail (length w) m (length w)) where
  module _ {a b c d acts go lens lefts : List ℕ} {r : Bool} (roomy : Roomy m (length a) (length b)) (L : Looked ns a b c d acts go lens lefts r) where
    -- there was room
    enough : Room S.t.grammar.terms S.t.grammar.nonterms (count S.t) (length a) (length b)
    enough = room_of S.good.its_numbers.in_range S.states roomy

    -- the look-ups are the table's
    pub built : LookUps S.t (length a) (length b) acts go lens lefts
    built = looked S.good.its_numbers enough L

    -- the run may be called
    can_run : CanRun w acts go lens lefts m tail S.t
    can_run = record {
      table = record { passes = S.good.passes; ranges = S.good.its_numbers.in_range; states = S.states };
      rows = rows_of S.t (length a) (length b) acts go lens lefts S.good.its_numbers.in_range enough built;
      tokens = S.ready.tokens;
      few = S.ready.few;
      room = S.called_for;
    }

    -- for some table
    pub some_run : SomeRun w acts go lens lefts m tail
    some_run = record { t = S.t; can = can_run }

    -- and what it tells is the judgement of the table whose numbers they are
    pub run_said : (j : Judgement) → Runs w acts go lens lefts m tail j → Said ns tail j
    run_said j y t g = subst (λ (u : Table). Says u tail j) (one_table S.good.its_numbers g.its_numbers) (y S.t can_run)
