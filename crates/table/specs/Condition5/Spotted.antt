-- The facts on a state that condition 5 asks for have one proof each: no two of its items agree, and the places of all
-- of them are noted.
use Rattle.std.specs.Prelude.{ℕ, zero, suc, ◌+◌, ◌<◌, ◌≡◌, List, [], ◌∷◌, length, get_or}
use Rattle.std.proofs.Common.{arith, sym, ◌∙◌}
use Rattle.std.proofs.Math.Decide.{dec_lt}
use native.Mathlib.Nat.{ℕ_set}
use mathlib.Core.HLevel.{is_prop→PathP}
use Rattle.std.specs.Coded.{le_prop}
use Rattle.theory.specs.Table.{Table, Item, state_at, Condition2}
use Rattle.table.specs.declared.places.Table.{Table as Lines}
use Rattle.table.specs.Aheads.{place_of}
use Rattle.table.specs.Places.{table_in, item_place, after_item}
use Rattle.table.specs.Places.Step.{item_first}
use Rattle.table.specs.Spots.{core_at, Spots}

pub condition2-prop : (t : Table) (s : ℕ) → IsProp (Condition2 t s)
condition2-prop t s = Prim.hlevel

-- the places of all items of a state are noted
abbrev pub AllSpots : Lines → ℕ → List ℕ → Type 0
AllSpots t s spots = Spots t.numbers.now t.state_at.now s (length (state_at (table_in t.numbers.now) s).items) spots

-- a later item stands farther on
place_rises : (p : ℕ) (is : List Item) (j k : ℕ) → j < k → k < length is → item_place p is j < item_place p is k
unfolding item_place
place_rises p [] j k l h = absurd (omega arith)
place_rises p (i ∷ is) j zero l h = absurd (omega arith)
place_rises p (i ∷ is) zero (suc zero) l h = let e = item_first (after_item p i) is in omega arith
place_rises p (i ∷ is) zero (suc (suc k)) l h =
    let e = item_first (after_item p i) is in
    let r = place_rises (after_item p i) is zero (suc k) (omega arith) (omega arith) in
    omega arith
place_rises p (i ∷ is) (suc j) (suc k) l h = place_rises (after_item p i) is j k (omega arith) (omega arith)

-- so at one place stands one item
one_place : (p : ℕ) (is : List Item) (j k : ℕ) → j < length is → k < length is →
    item_place p is j ≡ item_place p is k → j ≡ k
one_place p is j k g h e = go (dec_lt j k) (dec_lt k j)
  where
    go : Dec (j < k) → Dec (k < j) → j ≡ k
    go (yes l) d = let r = place_rises p is j k l h in absurd (omega arith)
    go (no n) (yes l) = let r = place_rises p is k j l g in absurd (omega arith)
    go (no n) (no m) = omega arith

module _ (ns places : List ℕ) (s : ℕ) (spots : List ℕ) where
  -- the item that a noted place is of
  abbrev Found : ℕ → Type 0
  Found c = (j : ℕ) × (j < length (state_at (table_in ns) s).items) ×
      (core_at ns s j ≡ c) × (get_or spots c 0 ≡ place_of ns places s j)

  found-prop : (c : ℕ) → IsProp (Found c)
  found-prop c (j, l, e, v) (k, m, f, w) =
      let p : j ≡ k = one_place (get_or places s 0 + 3) (state_at (table_in ns) s).items j k l m (sym v ∙ w) in
      λ i. (
        p i,
        is_prop→PathP (λ x. p x < length (state_at (table_in ns) s).items) (λ x. le_prop) l m i,
        is_prop→PathP (λ x. core_at ns s (p x) ≡ c) (λ x. ℕ_set _ _) e f i,
        is_prop→PathP (λ x. get_or spots c 0 ≡ place_of ns places s (p x)) (λ x. ℕ_set _ _) v w i,
      )

pub all_spots-prop : (t : Lines) (s : ℕ) (spots : List ℕ) → IsProp (AllSpots t s spots)
all_spots-prop t s spots x y = λ i. record {
  long = ℕ_set _ _ x.long y.long i;
  noted = λ j l. le_prop (x.noted j l) (y.noted j l) i;
  found = λ c l. found-prop t.numbers.now t.state_at.now s spots c (x.found c l) (y.found c l) i;
  below = λ c. le_prop (x.below c) (y.below c) i;
}
