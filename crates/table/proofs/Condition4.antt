-- Condition 4 holds exactly where what the state's items ask of each rule is given, and the rows of sets tell it.
use Prim.Native.Nat.{ℕ, suc, ◌-◌, ◌<◌}
use native.Mathlib.Omega.{arith}
use mathlib.Core.Path.{◌≡◌, refl, sym, ap, ◌∙◌, subst}
use mathlib.Core.Bool.{Bool}
use mathlib.Core.List.{List, [], ◌∷◌}
use mathlib.Core.List.{Memᴰ as Mem}
use lib.ListN.{length, get_or}
use Rattle.theory.specs.Grammar.{Grammar, WellFormed, Reduced}
use Rattle.theory.specs.Table.{Table, Item, rest, rule_at, state_at, InState, Condition2, Condition4}
use Rattle.lines.specs.Ranges.{ItemIn}
use Rattle.table.specs.Run.Sets.{begins_kinds}
use Rattle.table.specs.Sets.{In}
use Rattle.table.specs.Tests.Tell.{Tells, tells_as}
use Rattle.table.specs.Places.Step.{rule_mem}
use Rattle.table.specs.Notions.{nonterm}
use Rattle.table.specs.Condition4.{Asks, Gives, Asked, Given}
use Rattle.table.proofs.Distinct.{one_item}
use Rattle.table.proofs.Rows.{among_mem, mem_among}
use Rattle.table.proofs.Asked.{some_asked}

-- what is asked of rule r is given
abbrev Closed : Table → ℕ → ℕ → Type 0
Closed t s r = (a : ℕ) (i : Item) → InState t s i → Asks t.grammar (rule_at t.grammar r).left i a → (j : Item) × InState t s j × Gives r j a

module _ (t : Table) (s : ℕ) where
  -- condition 4 gives what is asked
  closing_gives : Condition4 t s → (r : ℕ) → r < length t.grammar.rules → Closed t s r
  closing_gives C r l a i m (Asks.next x xs e b) =
      let c = C i _ (x ∷ xs) r m e l refl in
      (c.item, c.here, record { its_rule = c.its_rule; its_dot = c.its_dot; its_set = c.begins x xs a refl b })
  closing_gives C r l a i m (Asks.last e k) =
      let c = C i _ [] r m e l refl in
      (c.item, c.here, record { its_rule = c.its_rule; its_dot = c.its_dot; its_set = c.own refl a k })

  -- where something is always asked, and no two items agree in rule and dot, what is asked is given by one item
  gives_closing : Condition2 t s →
      ((i : Item) (b : ℕ) (more : List ℕ) → InState t s i → rest t.grammar i ≡ b ∷ more → (a : ℕ) × Asks t.grammar b i a) →
      ((r : ℕ) → r < length t.grammar.rules → Closed t s r) → Condition4 t s
  gives_closing D some C i b more r m e l q = record {
    item = first.0;
    here = first.1;
    its_rule = first.2.its_rule;
    its_dot = first.2.its_dot;
    begins = λ x xs a f k. at a (Asks.next x xs (e ∙ ap (λ (z : List ℕ). b ∷ z) f) k);
    own = λ f a k. at a (Asks.last (e ∙ ap (λ (z : List ℕ). b ∷ z) f) k);
  }
    where
      given : (a : ℕ) → Asks t.grammar b i a → (j : Item) × InState t s j × Gives r j a
      given a k = C r l a i m (subst (λ c. Asks t.grammar c i a) (sym q) k)

      first : (j : Item) × InState t s j × Gives r j (some i b more m e).0
      first = given (some i b more m e).0 (some i b more m e).1

      at : (a : ℕ) → Asks t.grammar b i a → Mem a first.0.ahead
      at a k =
          let (j, n, v) = given a k in
          subst (λ z. Mem a z.ahead) (one_item t s D j first.0 n first.1 (v.its_rule ∙ sym first.2.its_rule) (v.its_dot ∙ sym first.2.its_dot)) v.its_set

-- what is asked is a token: a kind or the end mark
asks_low : {g : Grammar} {b a : ℕ} {i : Item} → ItemIn g i → Asks g b i a → a < suc g.terms
asks_low h (Asks.next x xs e k) = let l = begins_kinds k in omega arith
asks_low {a = a} h (Asks.last e m) = let l = h.ahead_in a m in omega arith

module _ (t : Table) (s : ℕ) (W : WellFormed t.grammar) (each : (i : Item) → InState t s i → ItemIn t.grammar i) where
  -- the state's items
  abbrev items : List Item
  items = (state_at t s).items

  -- what the rows ask of each rule is given; kinds and rules are counted as the code counts them
  abbrev AllGiven : ℕ → ℕ → List ℕ → List ℕ → Type 0
  AllGiven terms rules asked given = (r : ℕ) → r < rules → (a : ℕ) → In (get_or asked ((rule_at t.grammar r).left - terms - 1) 0) a → In (get_or given r 0) a

  -- the row of a rule's left side
  left-row : (r : ℕ) → r < length t.grammar.rules → (k : ℕ) × (k < t.grammar.nonterms) ×
      (k ≡ (rule_at t.grammar r).left - t.grammar.terms - 1) × (nonterm t.grammar k ≡ (rule_at t.grammar r).left)
  left-row r l =
      let (a, b) = W.lefts (rule_at t.grammar r) (rule_mem t.grammar r l) in
      ((rule_at t.grammar r).left - t.grammar.terms - 1, omega arith, refl, omega arith)

  -- the rows of what the state's items ask and give tell condition 4
  pub rows_tell : Reduced t.grammar → Condition2 t s → (asked given : List ℕ) {terms rules : ℕ} {b : Bool} → terms ≡ t.grammar.terms →
      rules ≡ length t.grammar.rules → Asked t.grammar items (length items) asked → Given t.grammar items (length items) given →
      Tells b (AllGiven terms rules asked given) → Tells b (Condition4 t s)
  rows_tell R D asked given {terms} {rules} p q A G = tells_as to from
    where
      to : AllGiven terms rules asked given → Condition4 t s
      to f = gives_closing t s D (λ i b more m e. some_asked W R i (each i m).some_ahead b more e) (λ r l a i m k.
          let (n, u, v, w) = left-row r l in
          let c = mem_among items (λ j. Asks t.grammar (nonterm t.grammar n) j a) m (subst (λ b. Asks t.grammar b i a) (sym w) k) in
          let row : get_or asked ((rule_at t.grammar r).left - terms - 1) 0 ≡ get_or asked n 0 = ap (λ (x : ℕ). get_or asked x 0) (omega arith) in
          among_mem items ((G r l).holds a (f r (omega arith) a (subst (λ x. In x a) (sym row) ((A n u).shows a (asks_low (each i m) k) c)))))

      -- what is asked in a row of the grammar is given in the rule's
      back : Condition4 t s → (r : ℕ) → r < length t.grammar.rules → (n a : ℕ) → n < t.grammar.nonterms →
          nonterm t.grammar n ≡ (rule_at t.grammar r).left → (x : Item) × InState t s x × Asks t.grammar (nonterm t.grammar n) x a →
          In (get_or given r 0) a
      back C r h n a u w (x, m, k) = put (closing_gives t s C r h a x m (subst (λ b. Asks t.grammar b x a) w k))
        where
          put : (j : Item) × InState t s j × Gives r j a → In (get_or given r 0) a
          put (j, o, v) = (G r h).shows a (let y = (each j o).ahead_in a v.its_set in omega arith) (mem_among items (λ z. Gives r z a) o v)

      from : Condition4 t s → AllGiven terms rules asked given
      from C r l a i =
          let h : r < length t.grammar.rules = omega arith in
          let (n, u, v, w) = left-row r h in
          let row : get_or asked ((rule_at t.grammar r).left - terms - 1) 0 ≡ get_or asked n 0 = ap (λ (x : ℕ). get_or asked x 0) (omega arith) in
          back C r h n a u w (among_mem items {P = λ z. Asks t.grammar (nonterm t.grammar n) z a} ((A n u).holds a (subst (λ y. In y a) row i)))
