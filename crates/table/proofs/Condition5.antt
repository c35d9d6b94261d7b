-- Condition 5 holds exactly where every item moves onward and every go line is led to; and what the tests of an item tell.
use Prim.Native.Nat.{ℕ, suc, ◌+◌, ◌-◌, ◌≤◌}
use native.Mathlib.Omega.{arith}
use native.Mathlib.Decide.{ℕ_discrete}
use mathlib.Core.Path.{◌≡◌, refl, sym, ap, ◌∙◌, subst}
use mathlib.Core.Bool.{Bool}
use mathlib.Core.List.{List, nil≢cons}
use mathlib.Core.List.{Memᴰ as Mem}
use lib.Dec.{eqb}
use lib.ListN.{get_or}
use Rattle.theory.specs.Grammar.{Grammar}
use Rattle.theory.specs.Table.{Table, Item, Go, state_at, InState, After, Complete, rule_at, Fits, Subset, Condition1, Condition2, Condition5}
use Rattle.lines.specs.Limits.{max_right}
use Rattle.table.specs.Tests.Tell.{Tells, tells_as, tells_eq}
use Rattle.table.specs.Items.{Agrees}
use Rattle.table.specs.Items.Dot.{after_dot, of_after}
use Rattle.table.specs.Condition5.{Moved, Onward, Back, Led, MarksTell}
use Rattle.table.specs.Spots.{core_of, CoreIn}
use Rattle.table.proofs.Spotted.{same_core}
use Rattle.table.proofs.Distinct.{one_item, one_go}

module _ (t : Table) (s : ℕ) where
  -- what condition 5 says of an item
  pub moves_onward : Condition5 t s → (i : Item) → InState t s i → Onward t s i
  moves_onward C i m x a =
      let (l, k, e) = C.has_line i x m a in
      let (j, n, r, d, c) = (C.moves l k).onward i m (subst (λ y. After t.grammar i y) (sym e) a) in
      (l, k, e, (j, n, record { same_rule = r; next_dot = d; contains = c }))

  -- what condition 5 says of a go line: where it leads to, an item stands with its dot moved on, which is not so in state 0
  pub moves_led : Condition1 t 0 → Condition5 t s → (l : Go) → Mem l (state_at t s).gos → Led t s l
  moves_led K C l k = (
    above (ℕ_discrete l.to 0),
    λ j n d. let (i, m, a, r, e, c) = (C.moves l k).back j n d in (i, m, a, record { same_rule = r; next_dot = e; contains = c }),
  )
    where
      above : Dec (l.to ≡ 0) → suc 0 ≤ l.to
      above (yes z) =
          let (i, m, a) = (C.moves l k).asked in
          let (j, n, r, d, c) = (C.moves l k).onward i m a in
          let h = K.dots refl j (subst (λ u. InState t u j) z n) in
          absurd (omega arith)
      above (no z) = omega arith

  -- both say all of it
  pub onward_led : Fits t → ((l : Go) → Mem l (state_at t s).gos → Condition1 t l.to) → ((i : Item) → InState t s i → Onward t s i) → ((l : Go) → Mem l (state_at t s).gos → Led t s l) → Condition5 t s
  onward_led F K f h = record {
    moves = λ l k. record {
      asked =
          let (j, n, d) = (K l k).kernel (λ z. let b = (h l k).0 in omega arith) in
          let (i, m, a, v) = (h l k).1 j n d in
          (i, m, a);
      onward = λ i m a. on l k (f i m l.on a);
      back = λ j n d. let (i, m, a, v) = (h l k).1 j n d in (i, m, a, v.same_rule, v.next_dot, v.contains);
    };
    has_line = λ i x m a. let (l, k, e, r) = f i m x a in (l, k, e);
  }
    where
      on : (l : Go) → Mem l (state_at t s).gos → {i : Item} → (k : Go) × Mem k (state_at t s).gos × (k.on ≡ l.on) × ((j : Item) × InState t k.to j × Moved i j) →
          (j : Item) × InState t l.to j × (j.rule ≡ i.rule) × (j.dot ≡ suc i.dot) × ((x : ℕ) → Mem x i.ahead → Mem x j.ahead)
      on l m (k, n, e, (j, u, v)) = (j, subst (λ z. InState t z.to j) (one_go t s F k l n m e) u, v.same_rule, v.next_dot, v.contains)

-- ---- symbols as the code reads them

-- the symbol before an item's dot is the one after the dot of the item that it comes from
pub symbol_before : (g : Grammar) (i j : Item) → Agrees j.rule (j.dot - 1) i → {r d x : ℕ} → r ≡ j.rule → d ≡ j.dot →
    x ≡ get_or (rule_at g r).right (d - 1) g.terms → x ≡ after_dot g i
symbol_before g i j (a, b) p q e =
    e ∙ ((λ k. get_or (rule_at g (p k)).right (q k - 1) g.terms) ∙ λ k. get_or (rule_at g (sym a k)).right (sym b k) g.terms)

-- ---- onward

module _ (t : Table) (s : ℕ) (i : Item) where
  -- a complete item has nothing to move
  pub onward_complete : Complete t.grammar i → Onward t s i
  onward_complete c x (more, e) = absurd (nil≢cons (sym c ∙ e))

  -- one that is not moves on exactly if it is met in the target of a go line, as the marks tell
  pub onward_tells : InState t s i → (x : ℕ) → After t.grammar i x → Condition2 t s → CoreIn i.rule i.dot →
      ((l : Go) → Mem l (state_at t s).gos → (j : Item) → InState t l.to j → j.dot ≤ max_right) → ((l : Go) → Mem l (state_at t s).gos → Led t s l) →
      {marks : List ℕ} → MarksTell t s marks → {m : ℕ} → m ≡ get_or marks (core_of i.rule i.dot) 0 → Tells (eqb m (s + 1)) (Onward t s i)
  onward_tells q x A D (r, d) short led {marks} M {m} e = tells_as on from (tells_eq m (s + 1))
    where
      on : m ≡ s + 1 → Onward t s i
      on h y B =
          let (l, k, (j, n, (a, c))) = M.told (core_of i.rule i.dot) (sym e ∙ (h ∙ omega arith)) in
          let b = short l k j n in
          let (u, v) = same_core {rule = i.rule} {dot = i.dot} d (omega arith) c in
          let (z, w, Z, moved) = (led l k).1 j n a in
          let g = moved.next_dot in
          let o : z ≡ i = one_item t s D z i w q (sym moved.same_rule ∙ u) (omega arith) in
          let on-is : l.on ≡ y = sym (of_after t.grammar z l.on Z.0 Z.1) ∙ (ap (after_dot t.grammar) o ∙ of_after t.grammar i y B.0 B.1) in
          (l, k, on-is, (j, n, subst (λ w. Moved w j) o moved))

      from : Onward t s i → m ≡ s + 1
      from h =
          let (l, k, f, (j, n, v)) = h x A in
          let g = v.next_dot in
          let c : core_of j.rule (j.dot - 1) ≡ core_of i.rule i.dot = let u = v.same_rule in omega arith in
          e ∙ (M.shown (core_of i.rule i.dot) (omega arith) (l, k, (j, n, (omega arith, c))) ∙ omega arith)

-- ---- back

module _ (t : Table) (s x : ℕ) (j : Item) where
  -- the item comes from one with the dot before
  before : (i : Item) → Moved i j → Agrees j.rule (j.dot - 1) i
  before i v = let e = v.next_dot in (sym v.same_rule, omega arith)

  -- an item with dot 0 need not come from any
  pub back_none : j.dot ≡ 0 → Back t s x j
  back_none e l = absurd (omega arith)

  -- an item with another symbol before its dot does not come from x
  pub back_other : (j.dot ≡ 0 → ⊥) → ((i : Item) → Agrees j.rule (j.dot - 1) i → after_dot t.grammar i ≡ x → ⊥) → Back t s x j → ⊥
  back_other n other h = let (i, m, (more, e), v) = h (omega arith) in other i (before i v) (of_after t.grammar i x more e)

  -- an item that stands nowhere with the dot before does not come from the state
  pub back_missing : (j.dot ≡ 0 → ⊥) → ((i : Item) → InState t s i → Agrees j.rule (j.dot - 1) i → ⊥) → Back t s x j → ⊥
  back_missing n none h = let (i, m, a, v) = h (omega arith) in none i m (before i v)

  -- where such an item is, and has x after its dot, what tells of its set tells that the item comes from the state
  pub back_tells : (i : Item) → InState t s i → Agrees j.rule (j.dot - 1) i → After t.grammar i x → (j.dot ≡ 0 → ⊥) → Condition2 t s →
      {b : Bool} → Tells b (Subset i.ahead j.ahead) → Tells b (Back t s x j)
  back_tells i m g A n D = tells_as on from
    where
      on : Subset i.ahead j.ahead → Back t s x j
      on f l = (i, m, A, record { same_rule = sym g.0; next_dot = (let e = g.1 in omega arith); contains = f })

      from : Back t s x j → Subset i.ahead j.ahead
      from h =
          let (z, w, y, v) = h (omega arith) in
          let q = before z v in
          subst (λ y. Subset y.ahead j.ahead) (one_item t s D z i w m (q.0 ∙ sym g.0) (q.1 ∙ sym g.1)) v.contains

-- ---- a go line

module _ (t : Table) (s : ℕ) {l : Go} {x to : ℕ} (e : x ≡ l.on) (f : to ≡ l.to) where
  -- one that leads to state 0 is not led so
  pub led_zero : to ≡ 0 → Led t s l → ⊥
  led_zero z (a, b) = omega arith

  -- of another one the items of the target tell
  pub led_tells : (to ≡ 0 → ⊥) → {b : Bool} → Tells b ((j : Item) → InState t to j → Back t s x j) → Tells b (Led t s l)
  led_tells n = tells_as
      (λ h. (omega arith, λ j m. subst (λ y. Back t s y j) e (h j (subst (λ z. InState t z j) (sym f) m))))
      (λ (v, h) j m. subst (λ y. Back t s y j) (sym e) (h j (subst (λ z. InState t z j) f m)))
