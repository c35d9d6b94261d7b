-- Rows of sets that a walk over items fills: each row has what one of the items so far has for it.
use Prim.Native.Nat.{ℕ, ◌+◌, ◌<◌, ◌≤◌}
use native.Mathlib.Omega.{arith}
use native.Mathlib.Decide.{ℕ_discrete, dec_lt}
use mathlib.Core.Path.{◌≡◌, refl, sym, ap, ◌∙◌, subst}
use mathlib.Core.Logic.{◌⊎◌, inl, inr, ⊎_elim}
use mathlib.Core.List.{List}
use mathlib.Core.List.{Memᴰ as Mem}
use lib.Bits.{bit_or}
use lib.ListN.{length, get_or, set, replicate, length-set, get_or-replicate}
use lib.Seq.{get_or-set_same, get_or-set_other}
use Rattle.theory.proofs.Basics.{place}
use Rattle.theory.specs.Table.{Item}
use Rattle.table.specs.Members.{mem_at}
use Rattle.table.specs.Sets.{SetOf}
use Rattle.table.specs.Places.{no_item}
use Rattle.table.specs.Condition4.{Among, Noted}
use Rattle.table.proofs.SetOf.{set-as, set_join, set_none}

-- ---- one of the first items

-- one of all items is a member
pub among_mem : (is : List Item) {P : Item → Type 0} → Among is (length is) P → (i : Item) × Mem i is × P i
among_mem is (j, l, p) = (get_or is j no_item, mem_at is j no_item l, p)

-- and a member is one of them
pub mem_among : (is : List Item) (P : Item → Type 0) {i : Item} → Mem i is → P i → Among is (length is) P
mem_among is P m p = let (j, l, e) = place no_item m in (j, l, subst P (sym e) p)

-- one of the first k + 1: one of the first k, or the k-th
among_cases : (is : List Item) (k : ℕ) (P : Item → Type 0) → Among is (k + 1) P → Among is k P ⊎ P (get_or is k no_item)
among_cases is k P (j, l, p) = go (dec_lt j k)
  where
    go : Dec (j < k) → Among is k P ⊎ P (get_or is k no_item)
    go (yes h) = inl (j, h, p)
    go (no h) = inr (subst (λ n. P (get_or is n no_item)) (omega arith) p)

-- and the other way
among_more : (is : List Item) (k : ℕ) (P : Item → Type 0) → Among is k P ⊎ P (get_or is k no_item) → Among is (k + 1) P
among_more is k P (inl (j, l, p)) = (j, omega arith, p)
among_more is k P (inr p) = (k, omega arith, p)

-- ---- rows

module _ (is : List Item) (w n : ℕ) (P : ℕ → Item → ℕ → Type 0) where
  -- each of n rows has what one of the first k items has for it
  abbrev pub Rows : ℕ → List ℕ → Type 0
  Rows k rows = (r : ℕ) → r < n → SetOf (λ a. Among is k (λ i. P r i a)) w (get_or rows r 0)

  -- nothing has been passed
  pub rows_none : (m : ℕ) → n ≤ m → Rows 0 (replicate m 0)
  rows_none m h r l = rw (get_or-replicate {A = ℕ} m r 0 0 (omega arith)) (set_none (λ a. Among is 0 (λ i. P r i a)) w (λ a (j, h, p). omega arith))

  -- the k-th item has nothing for any row
  rows-skip : (k : ℕ) (rows : List ℕ) → ((r a : ℕ) → r < n → P r (get_or is k no_item) a → ⊥) → Rows k rows → Rows (k + 1) rows
  rows-skip k rows none h r l = set-as (h r l) (λ a o. among_more is k (λ i. P r i a) (inl o))
      (λ a o. ⊎_elim (λ v. v) (λ p. absurd (none r a l p)) (among_cases is k (λ i. P r i a) o))

  -- the k-th item has the set for the one row
  rows_more : (k : ℕ) (rows : List ℕ) (q set' : ℕ) → q < length rows → SetOf (P q (get_or is k no_item)) w set' →
      ((r a : ℕ) → P r (get_or is k no_item) a → r ≡ q) → Rows k rows → Rows (k + 1) (set rows q (bit_or (get_or rows q 0) set'))
  rows_more k rows q set' l this only h r b = go (ℕ_discrete r q)
    where
      go : Dec (r ≡ q) → SetOf (λ a. Among is (k + 1) (λ i. P r i a)) w (get_or (set rows q (bit_or (get_or rows q 0) set')) r 0)
      go (yes e) =
          let f : get_or (set rows q (bit_or (get_or rows q 0) set')) r 0 ≡ bit_or (get_or rows r 0) set' =
          ap (λ (x : ℕ). get_or (set rows q (bit_or (get_or rows q 0) set')) x 0) e ∙ get_or-set_same rows q (bit_or (get_or rows q 0) set') 0 l ∙ ap (λ (x : ℕ). bit_or (get_or rows x 0) set') (sym e) in
          subst (λ s. SetOf (λ a. Among is (k + 1) (λ i. P r i a)) w s) (sym f)
          (set_join (h r b) (subst (λ x. SetOf (P x (get_or is k no_item)) w set') (sym e) this) (λ a o. among_more is k (λ i. P r i a) o)
          (λ a o. among_cases is k (λ i. P r i a) o))
      go (no e) =
          subst (λ s. SetOf (λ a. Among is (k + 1) (λ i. P r i a)) w s) (sym (get_or-set_other rows q r (bit_or (get_or rows q 0) set') 0 e))
          (set-as (h r b) (λ a o. among_more is k (λ i. P r i a) (inl o))
          (λ a o. ⊎_elim (λ v. v) (λ p. absurd (e (only r a p))) (among_cases is k (λ i. P r i a) o)))

  -- the k-th item has been noted
  pub rows-noted : (k : ℕ) {i : Item} {rows rows' : List ℕ} → i ≡ get_or is k no_item → Noted w n (λ r a. P r i a) rows rows' → Rows k rows → Rows (k + 1) rows'
  rows-noted k {rows = rows} {rows' = rows'} e v = go (subst (λ i. Noted w n (λ r a. P r i a) rows rows') e v)
    where
      go : {next : List ℕ} → Noted w n (λ r a. P r (get_or is k no_item) a) rows next → Rows k rows → Rows (k + 1) next
      go (Noted.skipped none) h = rows-skip k rows none h
      go (Noted.joined q more l this only) h = rows_more k rows q more l this only h

-- noting keeps the count of rows
pub noted_length : {w n : ℕ} {P : ℕ → ℕ → Type 0} {rows rows' : List ℕ} → Noted w n P rows rows' → length rows' ≡ length rows
noted_length (Noted.skipped none) = refl
noted_length {rows = rows} (Noted.joined q more l this only) = length-set rows q (bit_or (get_or rows q 0) more)
