-- The places of a state's items by rule and dot: what a walk over the items keeps, and what it tells.
use Prim.Native.Nat.{ℕ, zero, suc, ◌+◌, ◌≤◌, ◌<◌}
use native.Mathlib.Omega.{arith}
use native.Mathlib.Decide.{dec_lt, ℕ_discrete}
use native.Mathlib.Numerals.{add-one}
use mathlib.Core.Path.{◌≡◌, refl, sym, ap, subst, ◌∙◌}
use mathlib.Core.List.{List, [], ◌∷◌}
use lib.ListN.{length, get_or, set, replicate, length-set, length-replicate}
use lib.Seq.{get_or-set_same, get_or-set_other}
use Rattle.theory.specs.Grammar.{Rule}
use Rattle.theory.specs.Table.{Item, Table, state_at, rule_at}
use Rattle.lines.specs.Limits.{max_right}
use Rattle.lines.specs.Ranges.{InRange, ItemIn}
use Rattle.table.specs.declared.Sizes.{Sizes}
use Rattle.table.specs.Aheads.{place_of}
use Rattle.table.specs.Items.{StatesHeld}
use Rattle.table.specs.Items.Dot.{accept_is}
use Rattle.table.specs.Places.{table_in, item_place, after_item, no_item}
use Rattle.table.specs.Places.Step.{item_first, item_after, rule_mem}
use Rattle.table.specs.Spots.{cores, core_of, CoreIn, core_at, Spots}
use Rattle.table.proofs.Twice.{Lone}

-- ---- rules and dots

-- an item within the ranges has a number
pub core_in : (t : Table) → InRange t → (i : Item) → ItemIn t.grammar i → CoreIn i.rule i.dot
core_in t R i h = let r = h.rule_in in let m = R.rule_count.1 in (omega arith, short (dec_lt i.rule (length t.grammar.rules)))
  where
    short : Dec (i.rule < length t.grammar.rules) → i.dot ≤ max_right
    short (yes l) =
        let d = h.dot_in in
        let m = (R.rules_in (rule_at t.grammar i.rule) (rule_mem t.grammar i.rule l)).right_count.1 in
        omega arith
    short (no n) =
        let d : i.dot ≤ 1 = subst (λ (u : Rule). i.dot ≤ length u.right) (accept_is t.grammar i.rule (omega arith)) h.dot_in in
        omega arith

-- different pairs have different numbers
pub same_core : {rule dot r d : ℕ} → dot ≤ max_right → d ≤ max_right → core_of r d ≡ core_of rule dot → (r ≡ rule) × (d ≡ dot)
same_core a b e = (omega arith, omega arith)

-- ---- the walk

-- items stand from the first place on
place_past : (p : ℕ) (is : List Item) (k : ℕ) → p ≤ item_place p is k
unfolding item_place
place_past p [] k = omega arith
place_past p (i ∷ is) zero = omega arith
place_past p (i ∷ is) (suc k) = let h = place_past (after_item p i) is k in omega arith

module _ {ns places : List ℕ} {s : ℕ} where
  -- the walk begins with places of other states
  spots_first : {spots : List ℕ} → length spots ≡ cores → ((c : ℕ) → get_or spots c 0 < get_or places s 0 + 3) → Spots ns places s 0 spots
  spots_first {spots} n low = record {
    long = n;
    noted = λ j l. absurd (omega arith);
    found = λ c l. let h = low c in absurd (omega arith);
    below = λ c. subst (λ (p : ℕ). get_or spots c 0 < p) (sym (item_first (get_or places s 0 + 3) (state_at (table_in ns) s).items)) (low c);
  }

  -- and goes on
  pub spots_more : {k at c : ℕ} {spots : List ℕ} → Spots ns places s k spots → k < length (state_at (table_in ns) s).items → at ≡ place_of ns places s k →
      c ≡ core_at ns s k → c < cores → Spots ns places s (k + 1) (set spots c at)
  spots_more {k} {at} {c} {spots} h l e q b =
      let n = h.long in
      let next : place_of ns places s (k + 1) ≡ after_item (place_of ns places s k) (get_or (state_at (table_in ns) s).items k no_item) =
      ap (place_of ns places s) (add-one k) ∙ item_after (get_or places s 0 + 3) (state_at (table_in ns) s).items k l in
      let past = place_past (get_or places s 0 + 3) (state_at (table_in ns) s).items k in
      let same : get_or (set spots c at) c 0 ≡ at = get_or-set_same spots c at 0 (omega arith) in
      let other : (x : ℕ) → (x ≡ c → ⊥) → get_or (set spots c at) x 0 ≡ get_or spots x 0 = λ x z. get_or-set_other spots c x at 0 z in
      record {
        long = length-set spots c at ∙ n;
        noted = λ j g. noted_go same other past j g (ℕ_discrete (core_at ns s j) c) (ℕ_discrete j k);
        found = λ x g. found_go same other x g (ℕ_discrete x c);
        below = λ x. below_go same other next x (ℕ_discrete x c);
      }
    where
      noted_go : get_or (set spots c at) c 0 ≡ at → ((x : ℕ) → (x ≡ c → ⊥) → get_or (set spots c at) x 0 ≡ get_or spots x 0) → get_or places s 0 + 3 ≤ place_of ns places s k →
          (j : ℕ) → j < k + 1 → Dec (core_at ns s j ≡ c) → Dec (j ≡ k) → get_or places s 0 + 3 ≤ get_or (set spots c at) (core_at ns s j) 0
      noted_go same other past j g (yes z) d = rw z (omega arith)
      noted_go same other past j g (no z) (yes d) = absurd (z (ap (core_at ns s) d ∙ sym q))
      noted_go same other past j g (no z) (no d) = let w = h.noted j (omega arith) in let o = other (core_at ns s j) z in omega arith

      found_go : get_or (set spots c at) c 0 ≡ at → ((x : ℕ) → (x ≡ c → ⊥) → get_or (set spots c at) x 0 ≡ get_or spots x 0) → (x : ℕ) →
          get_or places s 0 + 3 ≤ get_or (set spots c at) x 0 → Dec (x ≡ c) →
          (j : ℕ) × (j < k + 1) × (core_at ns s j ≡ x) × (get_or (set spots c at) x 0 ≡ place_of ns places s j)
      found_go same other x g (yes z) = (k, omega arith, sym (z ∙ q), ap (λ (y : ℕ). get_or (set spots c at) y 0) z ∙ (same ∙ e))
      found_go same other x g (no z) =
          let o = other x z in
          let (j, w, u, v) = h.found x (omega arith) in
          (j, omega arith, u, o ∙ v)

      below_go : get_or (set spots c at) c 0 ≡ at → ((x : ℕ) → (x ≡ c → ⊥) → get_or (set spots c at) x 0 ≡ get_or spots x 0) →
          place_of ns places s (k + 1) ≡ after_item (place_of ns places s k) (get_or (state_at (table_in ns) s).items k no_item) →
          (x : ℕ) → Dec (x ≡ c) → get_or (set spots c at) x 0 < place_of ns places s (k + 1)
      below_go same other next x (yes z) = let y : get_or (set spots c at) x 0 ≡ at = ap (λ (y : ℕ). get_or (set spots c at) y 0) z ∙ same in omega arith
      below_go same other next x (no z) = let o = other x z in let w = h.below x in omega arith

-- all are 0
pub zeros : (n c : ℕ) → ◌≡◌ {A = ℕ} (get_or (replicate n 0) c 0) 0
zeros zero c = refl
zeros (suc n) zero = refl
zeros (suc n) (suc c) = zeros n c

-- nothing is noted yet
pub spots_none : {ns places : List ℕ} {s : ℕ} → Spots ns places s 0 (replicate cores 0)
spots_none {ns} {places} {s} = spots_first (length-replicate {A = ℕ} cores 0) (λ c. let z = zeros cores c in omega arith)

-- from one state to the next
pub spots_next : {ns places : List ℕ} {z : Sizes} → StatesHeld ns places z → {s : ℕ} → s + 1 < z.states → {k : ℕ} {spots : List ℕ} →
    k ≡ length (state_at (table_in ns) s).items → Spots ns places s k spots → Spots ns places (s + 1) 0 spots
spots_next {ns} {places} {z} H {s} l {k} {spots} e h =
    let n = H.states_are in
    let w = H.states_at.next s (omega arith) ∙ ap (λ (x : ℕ). get_or places x 0) (sym (add-one s)) in
    let q : place_of ns places s k ≡ place_of ns places s (length (state_at (table_in ns) s).items) = ap (place_of ns places s) e in
    spots_first h.long (λ c. let b = h.below c in omega arith)

-- ---- condition 2

module _ {ns places : List ℕ} {s k : ℕ} {spots : List ℕ} (h : Spots ns places s k spots) {p rule dot : ℕ} (e : p ≡ get_or spots (core_of rule dot) 0)
    (r : rule ≡ (get_or (state_at (table_in ns) s).items k no_item).rule) (d : dot ≡ (get_or (state_at (table_in ns) s).items k no_item).dot) where
  -- the k-th item, where no place of this state is noted for its rule and dot, differs from those before it
  pub lone_spot : p < get_or places s 0 + 3 → Lone (state_at (table_in ns) s).items k
  lone_spot l j g (a, b) =
      let w = h.noted j g in
      let q : core_at ns s j ≡ core_of rule dot = λ i. core_of ((a ∙ sym r) i) ((b ∙ sym d) i) in
      let v : get_or spots (core_at ns s j) 0 ≡ p = ap (λ (x : ℕ). get_or spots x 0) q ∙ sym e in
      omega arith

  -- where one is, it does not
  pub twice_spot : ((j : ℕ) → j < k → (get_or (state_at (table_in ns) s).items j no_item).dot ≤ max_right) → dot ≤ max_right → get_or places s 0 + 3 ≤ p →
      Lone (state_at (table_in ns) s).items k → ⊥
  twice_spot each b l lone =
      let (j, g, u, v) = h.found (core_of rule dot) (omega arith) in
      let (x, y) = same_core b (each j g) u in
      lone j g (x ∙ r, y ∙ d)
