-- Members of a list by their places: the front of a list, and what stands before a place.
use Prim.Native.Nat.{ℕ, zero, suc, ◌+◌, ◌<◌}
use native.Mathlib.Omega.{arith}
use native.Mathlib.Numerals.{add-one}
use mathlib.Core.Path.{◌≡◌, refl, sym, ap, subst, ◌∙◌}
use mathlib.Core.Logic.{◌⊎◌, inl, inr, ⊎_elim}
use mathlib.Core.List.Memᴰ
use mathlib.Core.List.{List, [], ◌∷◌, ◌++◌}
use mathlib.Core.List.Memᴰ.{head as Mem·head}
use mathlib.Core.List.Memᴰ.{tail as Mem·tail}
use mathlib.Core.List.{Memᴰ as Mem}
use lib.ListN.{length, get_or, take, length-append}
use lib.Seq.{take-append_seam, get_or-append_seam}

module _ {A : Type 0} where
  -- what stands at a place of the front is a member of the front
  pub front_at : (l : List A) (k j : ℕ) (d : A) → j < k → j < length l → Mem (get_or l j d) (take k l)
  front_at [] k j d h g = absurd (omega arith)
  front_at (x ∷ l) zero j d h g = absurd (omega arith)
  front_at (x ∷ l) (suc k) zero d h g = Mem·head refl
  front_at (x ∷ l) (suc k) (suc j) d h g = Mem·tail (front_at l k j d (omega arith) (omega arith))

  -- a member of the front stands at a place of it
  pub front_place : (l : List A) (k : ℕ) (d : A) {x : A} → Mem x (take k l) → (j : ℕ) × (j < k) × (j < length l) × (get_or l j d ≡ x)
  front_place [] zero d m = absurd (Memᴰ.not-nil m)
  front_place [] (suc k) d m = absurd (Memᴰ.not-nil m)
  front_place (y ∷ l) zero d m = absurd (Memᴰ.not-nil m)
  front_place (y ∷ l) (suc k) d (Mem·head e) = (0, omega arith, omega arith, sym e)
  front_place (y ∷ l) (suc k) d (Mem·tail m) = let (j, a, b, e) = front_place l k d m in (suc j, omega arith, omega arith, e)

  -- the front that is longer by one has the front before it
  pub front_more : (l : List A) (k : ℕ) {x : A} → Mem x (take k l) → Mem x (take (k + 1) l)
  front_more l k m = rw (add-one k) (go l k m)
    where
      go : (l : List A) (k : ℕ) {x : A} → Mem x (take k l) → Mem x (take (suc k) l)
      go [] zero m = m
      go [] (suc k) m = m
      go (y ∷ l) zero m = absurd (Memᴰ.not-nil m)
      go (y ∷ l) (suc k) (Mem·head e) = Mem·head e
      go (y ∷ l) (suc k) (Mem·tail m) = Mem·tail (go l k m)

  -- and what stands at the next place
  pub front_last : (l : List A) (k : ℕ) (d : A) → k < length l → Mem (get_or l k d) (take (k + 1) l)
  front_last l k d h = front_at l (k + 1) k d (omega arith) h

  -- and nothing else
  pub front_cases : (l : List A) (k : ℕ) (d : A) {x : A} → Mem x (take (k + 1) l) → Mem x (take k l) ⊎ (x ≡ get_or l k d)
  front_cases l k d {x} m = go l k (subst (λ n. Mem x (take n l)) (add-one k) m)
    where
      go : (l : List A) (k : ℕ) {x : A} → Mem x (take (suc k) l) → Mem x (take k l) ⊎ (x ≡ get_or l k d)
      go [] k m = absurd (Memᴰ.not-nil m)
      go (y ∷ l) zero (Mem·head e) = inr e
      go (y ∷ l) zero (Mem·tail m) = absurd (Memᴰ.not-nil m)
      go (y ∷ l) (suc k) (Mem·head e) = inl (Mem·head e)
      go (y ∷ l) (suc k) (Mem·tail m) = ⊎_elim (λ n. inl (Mem·tail n)) (λ e. inr e) (go l k m)

  -- nothing is in the empty front
  pub front_none : (l : List A) {x : A} → Mem x (take 0 l) → ⊥
  front_none [] m = Memᴰ.not-nil m
  front_none (y ∷ l) m = Memᴰ.not-nil m

  -- what holds at every place, of the front before it and what stands there, holds of every part of the list that goes so
  pub by_place : (P : List A → A → Type 0) (l : List A) (d : A) → ((k : ℕ) → k < length l → P (take k l) (get_or l k d)) →
      (before after : List A) (x : A) → l ≡ before ++ (x ∷ after) → P before x
  by_place P l d h before after x e =
      let f : take (length before) l ≡ before = ap (take (length before)) e ∙ take-append_seam before (x ∷ after) in
      let g : get_or l (length before) d ≡ x = ap (λ (m : List A). get_or m (length before) d) e ∙ get_or-append_seam before x after d in
      let n = ap length e ∙ length-append before (x ∷ after) in
      subst (P before) g (subst (λ m. P m (get_or l (length before) d)) f (h (length before) (omega arith)))
