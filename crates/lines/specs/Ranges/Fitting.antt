-- What the automaton accepts: exactly the numbers of tables within the ranges; and those tables fit as the theory asks.
use Rattle.std.specs.Prelude.{ℕ, ◌≤◌, ◌<◌, ◌≡◌, ◌↔◌, List, [], ◌∷◌, ◌++◌, length}
use Rattle.std.proofs.Common.{arith, sym, ap, ◌∙◌, subst, ⊎_elim}
use mathlib.Core.List.Memᴰ
use mathlib.Core.List.Memᴰ.{head as Mem·head}
use mathlib.Core.List.Memᴰ.{tail as Mem·tail}
use mathlib.Core.List.{Memᴰ as Mem}
use Rattle.theory.proofs.Basics.{get_d_cases}
use Rattle.theory.specs.Grammar.{Rule, Grammar, WellFormed}
use Rattle.theory.specs.Table.{Item, Go, State, Table, Fits, InState, count, state_at, no_state}
use Rattle.lines.specs.Limits.{max_numbers}
use Rattle.lines.specs.Lines.{Draft, Lined, read_numbers, table_of, flat, ons}
use Rattle.lines.specs.Lines.Numbers.{read_runs, runs_read}
use Rattle.lines.specs.Ranges.{Rising, RisingFrom, RuleIn, ItemIn, GoIn, StateIn, InRange, FitLines, lines_of, finished}
use Rattle.lines.specs.Ranges.Exact.{run_table, table_run}

-- ---- ranges are fits

-- a rule without symbols is none
filled : {g : Grammar} {r : Rule} → RuleIn g r → r.right ≡ [] → ⊥
filled h e = let w = h.right_count.0 in let z = ap (λ (l : List ℕ). length l) e in omega arith

-- the grammar is as the theory asks
pub formed : (t : Table) → InRange t → WellFormed t.grammar
formed t h = record {
  has_start = h.nonterm_count.0;
  lefts = λ r m. (h.rules_in r m).left_in;
  filled = λ r m e. filled (h.rules_in r m) e;
  no_end = λ r x m k e. ((h.rules_in r m).right_in x k).1 e;
  in_range = λ r x m k. ((h.rules_in r m).right_in x k).0;
}

-- what holds of every state in range, and of no state, holds at every number
at_state : (P : State → Type 0) (t : Table) → InRange t → P no_state → ((s : State) → StateIn t.grammar (count t) s → P s) → (n : ℕ) → P (state_at t n)
at_state P t h none each n =
    ⊎_elim (λ m. each (state_at t n) (h.states_in (state_at t n) m)) (λ e. subst P (sym e.1) none) (get_d_cases t.states n no_state)

-- what stands later in a list that rises from x is above x
rising_from_above : (x : ℕ) (before : List Go) (l : Go) (after : List Go) → RisingFrom x (ons (before ++ (l ∷ after))) → x < l.on
rising_from_above x [] l after u = u.0
rising_from_above x (g ∷ before) l after u = let (p, q) = u in let h = rising_from_above g.on before l after q in omega arith

-- a list that rises from x rises
rising_from_tail : (x : ℕ) (ys : List ℕ) → RisingFrom x ys → Rising ys
rising_from_tail x [] u = tt
rising_from_tail x (y ∷ ys) u = u.1

-- of rising go lines an earlier one is below a later one
rising_before : (before : List Go) (l : Go) (after : List Go) (g : Go) → Rising (ons (before ++ (l ∷ after))) → Mem g before → g.on < l.on
rising_before [] l after g u m = absurd (Memᴰ.not-nil m)
rising_before (b ∷ before) l after g u (Mem·head e) = rw e (rising_from_above b.on before l after u)
rising_before (b ∷ before) l after g u (Mem·tail m) = rising_before before l after g (rising_from_tail b.on (ons (before ++ (l ∷ after))) u) m

-- every item of every state is in range
item_in_law : (t : Table) → InRange t → (s : ℕ) (i : Item) → InState t s i → ItemIn t.grammar i
item_in_law t h s i = at_state (λ x. Mem i x.items → ItemIn t.grammar i) t h (λ m. absurd (Memᴰ.not-nil m)) (λ x y m. y.items_in i m) s

-- every go line of every state is in range
go_in_law : (t : Table) → InRange t → (s : ℕ) (l : Go) → Mem l (state_at t s).gos → GoIn t.grammar (count t) l
go_in_law t h s l = at_state (λ x. Mem l x.gos → GoIn t.grammar (count t) l) t h (λ m. absurd (Memᴰ.not-nil m)) (λ x y m. y.gos_in l m) s

-- the go lines of every state rise
gos_rise : (t : Table) → InRange t → (s : ℕ) → Rising (ons (state_at t s).gos)
gos_rise t h s = at_state (λ x. Rising (ons x.gos)) t h tt (λ x y. y.gos_rise) s

-- a table within the ranges fits as the theory asks
pub ranges_fit : (t : Table) → InRange t → Fits t
ranges_fit t h = record {
  formed = formed t h;
  some_state = h.state_count.0;
  item_rule = λ s i m. (item_in_law t h s i m).rule_in;
  item_dot = λ s i m. (item_in_law t h s i m).dot_in;
  item_ahead = λ s i a m k. (item_in_law t h s i m).ahead_in a k;
  go_to = λ s l m. (go_in_law t h s l m).to_in;
  go_on = λ s l m. (go_in_law t h s l m).on_in;
  go_rise = λ s before after g l e m. rising_before before l after g (subst (λ x. Rising (ons x)) e (gos_rise t h s)) m;
}

-- ---- the theorems

-- numbers that are read are those of the table read, which is within the ranges; and the draft is the table's
pub read_fits : (ns : List ℕ) (d : Draft) → read_numbers ns ≡ Lined.fine d → FitLines ns (table_of d) × (d ≡ finished (table_of d))
read_fits ns d e =
    let (ls, p, r, o) = read_runs ns d e in
    let (t, q, h, u) = run_table r in
    let v : t ≡ table_of d = ap table_of (sym u) in
    (record { in_range = subst InRange v h; its_numbers = p ∙ ap flat (q ∙ ap lines_of v); not_over = o }, u ∙ ap finished v)

-- the numbers of a table within the ranges are read, and give that table
pub fits_read : (ns : List ℕ) (t : Table) → FitLines ns t → read_numbers ns ≡ Lined.fine (finished t)
fits_read ns t f =
    subst (λ x. read_numbers x ≡ Lined.fine (finished t)) (sym f.its_numbers)
    (runs_read (table_run t f.in_range) (subst (λ (x : List ℕ). length x ≤ max_numbers) f.its_numbers f.not_over))

-- both at once
pub exact : (ns : List ℕ) (d : Draft) → (read_numbers ns ≡ Lined.fine d) ↔ (FitLines ns (table_of d) × (d ≡ finished (table_of d)))
exact ns d = (read_fits ns d, λ h. subst (λ x. read_numbers ns ≡ Lined.fine x) (sym h.1) (fits_read ns (table_of d) h.0))

-- what was read fits as the theory asks
pub read_fit : (ns : List ℕ) (d : Draft) → read_numbers ns ≡ Lined.fine d → Fits (table_of d)
read_fit ns d e = ranges_fit (table_of d) (read_fits ns d e).0.in_range
