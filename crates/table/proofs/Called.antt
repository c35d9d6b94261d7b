-- Condition 3 by places: what the set of nonterminals after the dots of earlier items tells of an item.
use Prim.Native.Nat.{ℕ, suc, ◌+◌, ◌-◌, ◌≤◌, ◌<◌}
use native.Mathlib.Omega.{arith}
use native.Mathlib.Decide.{dec_lt, dec_le}
use mathlib.Core.Path.{◌≡◌, refl, sym, ap, subst, ◌∙◌}
use mathlib.Core.Bool.{Bool}
use mathlib.Core.Logic.{◌⊎◌, inl, inr, ⊎_elim}
use mathlib.Core.List.{List, [], ◌∷◌}
use mathlib.Core.List.{Memᴰ as Mem}
use lib.ListN.{length, get_or, take, drop}
use lib.Seq.{split_at, length-take-le}
use borrow.Author.Tests.{le-leb, lt-leb}
use Rattle.theory.specs.Grammar.{Grammar, WellFormed}
use Rattle.theory.specs.Table.{Item, Table, state_at, rule_at, accept_rule, After, Condition3}
use Rattle.table.specs.Members.{mem_at}
use Rattle.table.specs.Conditions.Parts.{AfterSome, LeftIn, CalledFor, with_symbol}
use Rattle.table.specs.Items.Dot.{after_dot, accept_is, after_unmarked, after_dot-in, after_of, of_after}
use Rattle.table.specs.Places.{no_item}
use Rattle.table.specs.Sets.{SetOf}
use Rattle.table.specs.Tests.Tell.{Tells, tells_as}
use Rattle.table.proofs.Order.{front_more, front_last, front_cases, front_none, by_place}
use Rattle.table.proofs.SetOf.{set-as, set_more}

-- an item with dot 0 in the k-th place is state 0's first, or has its left side after the dot of an item before it
abbrev pub CalledAt : Grammar → ℕ → List Item → ℕ → Item → Type 0
CalledAt g s is k i = i.dot ≡ 0 → ((s ≡ 0) × (k ≡ 0)) ⊎ ((j : Item) × Mem j (take k is) × After g j (rule_at g i.rule).left)

-- so it is with the k-th item
abbrev pub CalledBy : Grammar → ℕ → List Item → ℕ → Type 0
CalledBy g s is k = CalledAt g s is k (get_or is k no_item)

-- ---- the set of the items before a place

module _ {g : Grammar} (W : WellFormed g) (is : List Item) (k : ℕ) {set : ℕ} (S : SetOf (AfterSome g (take k is)) g.nonterms set) where
  -- a left side in the set stands after a dot
  left_after : (r : ℕ) → LeftIn g set r → (i : Item) × Mem i (take k is) × After g i (rule_at g r).left
  left_after r (l, h) =
      let (i, m, a) = S.holds _ h in
      let n = W.lefts (rule_at g r) (mem_at g.rules r (accept_rule g) l) in
      let e : suc g.terms + ((rule_at g r).left - suc g.terms) ≡ (rule_at g r).left = omega arith in
      (i, m, subst (After g i) e a)

  -- and the other way round: the accept rule's left side stands after no dot
  after_left : (r : ℕ) → (i : Item) × Mem i (take k is) × After g i (rule_at g r).left → LeftIn g set r
  after_left r (i, m, a) = go (dec_lt r (length g.rules))
    where
      go : Dec (r < length g.rules) → LeftIn g set r
      go (yes l) =
          let n = W.lefts (rule_at g r) (mem_at g.rules r (accept_rule g) l) in
          let e : (rule_at g r).left ≡ suc g.terms + ((rule_at g r).left - suc g.terms) = omega arith in
          (l, S.shows _ (omega arith) (i, m, subst (After g i) e a))
      go (no n) = absurd (after_unmarked W i _ a (ap (λ u. u.left) (accept_is g r (omega arith))))

  -- so the test of an item by the set tells whether an item before it calls for it
  pub called_tells : {s : ℕ} {b : Bool} {i : Item} → i ≡ get_or is k no_item → Tells b (CalledFor g set s k i) → Tells b (CalledBy g s is k)
  called_tells {s} {b} {i} e t =
      subst (λ u. Tells b (CalledAt g s is k u)) e
      (tells_as (λ h z. ⊎_elim (λ p. inl p) (λ p. inr (left_after i.rule p)) (h z))
      (λ h z. ⊎_elim (λ p. inl p) (λ p. inr (after_left i.rule p)) (h z)) t)

  -- the set one item further
  pub set-symbol : {x : ℕ} → k < length is → x ≡ after_dot g (get_or is k no_item) →
      SetOf (AfterSome g (take (k + 1) is)) g.nonterms (with_symbol g.terms set x)
  unfolding with_symbol
  set-symbol {x} l e = go (dec_le x g.terms)
    where
      more : (y : ℕ) → AfterSome g (take k is) y → AfterSome g (take (k + 1) is) y
      more y (i, m, a) = (i, front_more is k m, a)

      at_last : (y : ℕ) (i : Item) → i ≡ get_or is k no_item → After g i (suc g.terms + y) → x ≡ suc g.terms + y
      at_last y i q (rest, a) = e ∙ (ap (after_dot g) (sym q) ∙ of_after g i (suc g.terms + y) rest a)

      go : Dec (x ≤ g.terms) → SetOf (AfterSome g (take (k + 1) is)) g.nonterms (with_symbol g.terms set x)
      go (yes h) = rw (le-leb x g.terms h, with_symbol) (set-as S more
          (λ y (i, m, a). ⊎_elim (λ n. (i, n, a)) (λ q. let z = at_last y i q a in absurd (omega arith)) (front_cases is k no_item m)))
      go (no n) =
          let b = after_dot-in W (get_or is k no_item) in
          let z : x ≡ suc g.terms + (x - g.terms - 1) = omega arith in
          let a : After g (get_or is k no_item) (suc g.terms + (x - g.terms - 1)) =
          (_, after_of g (get_or is k no_item) _ (sym e ∙ z) (λ q. omega arith)) in
          rw (lt-leb x g.terms (omega arith), with_symbol) (set_more (x - g.terms - 1) (omega arith) S
          (λ y o. ⊎_elim (more y) (λ q. (get_or is k no_item, front_last is k no_item l, subst (λ u. After g (get_or is k no_item) (suc g.terms + u)) (sym q) a)) o)
          (λ y (i, m, c). ⊎_elim (λ n. inl (i, n, c)) (λ q. let w = at_last y i q c in inr (omega arith)) (front_cases is k no_item m)))

-- ---- all items

-- the empty set, before the first item
pub none_after : (g : Grammar) (is : List Item) → (y : ℕ) → AfterSome g (take 0 is) y → ⊥
none_after g is y (i, m, a) = front_none is m

module _ (t : Table) (s : ℕ) where
  -- where each item is called for, the state keeps condition 3
  pub called_all : ((k : ℕ) → k < length (state_at t s).items → CalledBy t.grammar s (state_at t s).items k) → Condition3 t s
  called_all h =
      by_place (λ front j. j.dot ≡ 0 → ((s ≡ 0) × (front ≡ [])) ⊎ ((i : Item) × Mem i front × After t.grammar i (rule_at t.grammar j.rule).left))
      (state_at t s).items no_item
      (λ k l z. ⊎_elim (λ (a, b). inl (a, none (state_at t s).items k b)) (λ p. inr p) (h k l z))
    where
      none : (l : List Item) (k : ℕ) → k ≡ 0 → take k l ≡ []
      none [] k e = rw e refl
      none (i ∷ l) k e = rw e refl

  -- and the other way round
  pub all_called : Condition3 t s → (k : ℕ) → k < length (state_at t s).items → CalledBy t.grammar s (state_at t s).items k
  all_called h k l z =
      ⊎_elim (λ (a, b). let n = length-take-le k (state_at t s).items (omega arith) in let m = ap length b in inl (a, omega arith)) (λ p. inr p)
      (h (take k (state_at t s).items) (drop (suc k) (state_at t s).items) (get_or (state_at t s).items k no_item)
      (split_at (state_at t s).items k no_item l) z)
