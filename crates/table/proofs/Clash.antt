-- Condition 7 by places: what the set of the tokens on which earlier items are complete tells of an item and of a go line.
use Prim.Native.Nat.{ℕ, zero, suc, ◌+◌, ◌/◌, ◌%◌, ◌<◌}
use native.Mathlib.Omega.{arith}
use native.Mathlib.Decide.{ℕ_discrete}
use mathlib.Core.Path.{◌≡◌, ap, subst, ◌∙◌}
use mathlib.Core.Bool.{Bool}
use mathlib.Core.Logic.{inl, inr, ⊎_elim}
use mathlib.Core.List.{List}
use mathlib.Core.List.{Memᴰ as Mem}
use lib.ListN.{length, get_or, take, drop}
use lib.Seq.{split_at, take-length}
use lib.Bits.{bit_and, bit_or}
use Rattle.theory.specs.Grammar.{Grammar}
use Rattle.theory.specs.Table.{Item, Table, state_at, Complete, Condition7}
use Rattle.table.specs.Conditions.Parts.{NoShift}
use Rattle.table.specs.Places.{no_item}
use Rattle.table.specs.Sets.{In, SetOf}
use Rattle.table.specs.Tests.Tell.{Tells, tells_as}
use Rattle.table.proofs.Bits.{half_bit, low_bit, and_both, both_and, none_in}
use Rattle.table.proofs.Order.{front_more, front_last, front_cases, front_none, by_place}
use Rattle.table.proofs.SetOf.{set-as, set_join}

-- by halves: the lowest bit is 1, or the half is not 0
half_in : (fuel n : ℕ) → n < fuel → (n ≡ 0 → ⊥) → (k : ℕ) × In n k
half_in zero n l h = absurd (omega arith)
half_in (suc fuel) n l h = step (ℕ_discrete (n % 2) 1) (half_in fuel (n / 2))
  where
    step : Dec (n % 2 ≡ 1) → (n / 2 < fuel → (n / 2 ≡ 0 → ⊥) → (k : ℕ) × In (n / 2) k) → (k : ℕ) × In n k
    step (yes e) ih = (0, low_bit n ∙ e)
    step (no e) ih = let (k, i) = ih (omega arith) (λ z. h (omega arith)) in (suc k, half_bit n k ∙ i)

-- a number that is not 0 is no empty set
pub some_in : (n : ℕ) → (n ≡ 0 → ⊥) → (k : ℕ) × In n k
some_in n h = half_in (suc n) n (omega arith) h

-- some complete item has the token in its set
abbrev pub DoneOn : Grammar → List Item → ℕ → Type 0
DoneOn g is a = (i : Item) × Mem i is × Complete g i × Mem a i.ahead

-- the k-th item, if complete, shares no token with a complete item before it
abbrev pub Apart : Grammar → List Item → ℕ → Type 0
Apart g is k = Complete g (get_or is k no_item) → (a : ℕ) → DoneOn g (take k is) a → Mem a (get_or is k no_item).ahead → ⊥

-- before the first item
pub none_done : (g : Grammar) (is : List Item) (a : ℕ) → DoneOn g (take 0 is) a → ⊥
none_done g is a (i, m, p, q) = front_none is m

module _ (g : Grammar) (is : List Item) (k : ℕ) {set : ℕ} (S : SetOf (DoneOn g (take k is)) (suc g.terms) set) where
  -- what was done before is done still
  more : (a : ℕ) → DoneOn g (take k is) a → DoneOn g (take (k + 1) is) a
  more a (i, m, p, q) = (i, front_more is k m, p, q)

  -- an item that is not complete adds nothing
  pub done_same : (Complete g (get_or is k no_item) → ⊥) → SetOf (DoneOn g (take (k + 1) is)) (suc g.terms) set
  done_same n = set-as S more (λ a (i, m, p, q). ⊎_elim (λ w. (i, w, p, q)) (λ w. absurd (n (subst (Complete g) w p))) (front_cases is k no_item m))

  module _ {ahead : ℕ} (l : k < length is) (p : Complete g (get_or is k no_item))
      (A : SetOf (λ a. Mem a (get_or is k no_item).ahead) (suc g.terms) ahead) where
    -- a complete item adds its set
    pub done_more : SetOf (DoneOn g (take (k + 1) is)) (suc g.terms) (bit_or set ahead)
    done_more = set_join S A
        (λ a o. ⊎_elim (more a) (λ m. (get_or is k no_item, front_last is k no_item l, p, m)) o)
        (λ a (i, m, q, r). ⊎_elim (λ w. inl (i, w, q, r)) (λ w. inr (subst (λ u. Mem a u.ahead) w r)) (front_cases is k no_item m))

    -- and where it shares nothing with those before it, it is apart from them
    pub apart_here : ((a : ℕ) → Mem a (get_or is k no_item).ahead → a < suc g.terms) → bit_and set ahead ≡ 0 → Apart g is k
    apart_here b z q a d m =
        none_in a (subst (λ n. In n a) z (both_and set ahead a (S.shows a (b a m) d) (A.shows a (b a m) m)))

    -- where it shares something it is not
    pub clash_here : (bit_and set ahead ≡ 0 → ⊥) → Apart g is k → ⊥
    clash_here n h =
        let (a, i) = some_in (bit_and set ahead) n in
        let (x, y) = and_both set ahead a i in
        h p a (S.holds a x) (A.holds a y)

-- ---- a whole state

module _ (t : Table) (s : ℕ) {set : ℕ} where
  -- a state whose items are apart keeps condition 7 exactly if no go line is on a kind of the set of its complete items
  pub clash_tells : {b : Bool} → ((i : Item) (a : ℕ) → Mem i (state_at t s).items → Mem a i.ahead → a < suc t.grammar.terms) →
      ((k : ℕ) → k < length (state_at t s).items → Apart t.grammar (state_at t s).items k) →
      SetOf (DoneOn t.grammar (state_at t s).items) (suc t.grammar.terms) set →
      Tells b (NoShift t.grammar.terms (state_at t s).gos set) → Tells b (Condition7 t s)
  clash_tells bound apart S w =
      tells_as
      (λ h. record {
        one_item = λ before after i j a e m p q x y.
            by_place (λ front u. (v : Item) → Mem v front → Complete t.grammar v → Complete t.grammar u → Mem a v.ahead → Mem a u.ahead → ⊥)
            (state_at t s).items no_item (λ k l v n c d f z. apart k l d a (v, n, c, f) z) before after j e i m p q x y;
        no_shift = λ g i m n l p x. h g m l (S.shows g.on (omega arith) (i, n, p, x));
      })
      (λ h g m l x. let (i, n, p, q) = S.holds g.on x in h.no_shift g i m n l p q) w

-- a state that keeps condition 7 has its items apart
pub all_apart : (t : Table) (s : ℕ) → Condition7 t s → (k : ℕ) → k < length (state_at t s).items → Apart t.grammar (state_at t s).items k
all_apart t s h k l p a (i, m, q, x) y =
    h.one_item (take k (state_at t s).items) (drop (suc k) (state_at t s).items) i (get_or (state_at t s).items k no_item) a
    (split_at (state_at t s).items k no_item l) m q p x y

-- the set of all items
pub done_all : (g : Grammar) (is : List Item) (k : ℕ) {set : ℕ} → k ≡ length is → SetOf (DoneOn g (take k is)) (suc g.terms) set →
    SetOf (DoneOn g is) (suc g.terms) set
done_all g is k {set} e S = subst (λ l. SetOf (DoneOn g l) (suc g.terms) set) (ap (λ (n : ℕ). take n is) e ∙ take-length is) S
