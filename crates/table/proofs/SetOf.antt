-- Laws of sets that have exactly the numbers of a property: the empty set, one number more, two sets together.
use Prim.Native.Nat.{ℕ, ◌+◌, ◌<◌, ◌^◌}
use mathlib.Core.Path.{◌≡◌, subst, sym, ◌∙◌}
use mathlib.Core.Logic.{◌⊎◌, inl, inr, ⊎_elim}
use mathlib.Core.List.{List}
use mathlib.Core.List.{Memᴰ as Mem}
use lib.ListN.{length, get_or, take}
use lib.Bits.{bit_or, or_lt}
use lib.Pow.{pow_pos, pow-lt}
use Rattle.table.specs.Sets.{In, SetOf}
use Rattle.table.proofs.Bits.{none_in, single_in, single_only, or_left, or_right, or_cases}
use Rattle.table.proofs.Order.{front_more, front_last, front_cases}

-- the empty set, where nothing has the property
pub set_none : (P : ℕ → Type 0) (n : ℕ) → ((k : ℕ) → P k → ⊥) → SetOf P n 0
set_none P n h = record { below = pow_pos n; holds = λ k i. absurd (none_in k i); shows = λ k l p. absurd (h k p) }

-- two sets together
pub set_join : {P Q R : ℕ → Type 0} {n a b : ℕ} → SetOf P n a → SetOf Q n b → ((k : ℕ) → P k ⊎ Q k → R k) → ((k : ℕ) → R k → P k ⊎ Q k) →
    SetOf R n (bit_or a b)
set_join {n = n} {a = a} {b = b} p q f g = record {
  below = or_lt n a b p.below q.below;
  holds = λ k i. f k (⊎_elim (λ h. inl (p.holds k h)) (λ h. inr (q.holds k h)) (or_cases a b k i));
  shows = λ k l r. ⊎_elim (λ h. or_left a b k (p.shows k l h)) (λ h. or_right a b k (q.shows k l h)) (g k r);
}

-- one number alone
pub set_one : (n k : ℕ) → k < n → SetOf (λ x. x ≡ k) n (2 ^ k)
set_one n k l = record { below = pow-lt l; holds = single_only k; shows = λ x g e. subst (In (2 ^ k)) (sym e) (single_in k) }

-- one number more
pub set_more : {P R : ℕ → Type 0} {n set : ℕ} (k : ℕ) → k < n → SetOf P n set → ((x : ℕ) → P x ⊎ (x ≡ k) → R x) → ((x : ℕ) → R x → P x ⊎ (x ≡ k)) →
    SetOf R n (bit_or set (2 ^ k))
set_more {n = n} k l p f g = set_join p (set_one n k l) f g

-- the same set of a property that says the same
pub set-as : {P R : ℕ → Type 0} {n set : ℕ} → SetOf P n set → ((x : ℕ) → P x → R x) → ((x : ℕ) → R x → P x) → SetOf R n set
set-as p f g = record { below = p.below; holds = λ k i. f k (p.holds k i); shows = λ k l r. p.shows k l (g k r) }

-- the set of the front of a list, one place further
pub set_front : (l : List ℕ) (j : ℕ) {n set a : ℕ} → j < length l → a ≡ get_or l j 0 → a < n → SetOf (λ x. Mem x (take j l)) n set →
    SetOf (λ x. Mem x (take (j + 1) l)) n (bit_or set (2 ^ a))
set_front l j {n} {set} {a} h e b p =
    set_more a b p
    (λ x o. ⊎_elim (λ m. front_more l j m) (λ q. subst (λ y. Mem y (take (j + 1) l)) (sym (q ∙ e)) (front_last l j 0 h)) o)
    (λ x m. ⊎_elim (λ k. inl k) (λ q. inr (q ∙ sym e)) (front_cases l j 0 m))
