-- Members of a list and their places.
use Rattle.std.specs.Prelude.{ℕ, zero, suc, ◌<◌, refl, Bool, true, false, List, [], ◌∷◌, length, get_or, MatchBool}
use Rattle.std.proofs.Common.{arith, subst}
use mathlib.Core.List.Memᴰ.{head as Mem·head}
use mathlib.Core.List.Memᴰ.{tail as Mem·tail}
use mathlib.Core.List.{Memᴰ as Mem}
use Rattle.theory.proofs.Basics.{place}

-- what stands at a place is a member
pub mem_at : {A : Type 0} (l : List A) (j : ℕ) (d : A) → j < length l → Mem (get_or l j d) l
mem_at [] j d h = absurd (omega arith)
mem_at (x ∷ l) zero d h = Mem·head refl
mem_at (x ∷ l) (suc j) d h = Mem·tail (mem_at l j d (omega arith))

-- what holds at every place holds of every member
pub all_mem : {A : Type 0} (P : A → Type 0) (l : List A) (d : A) → ((j : ℕ) → j < length l → P (get_or l j d)) → (x : A) → Mem x l → P x
all_mem P l d h x m = let (j, i, e) = place d m in subst P e (h j i)

-- what is told of the places of a list is told of its members: one has a property, or each has another
pub some_or_each : {A : Type 0} (l : List A) (d : A) (Yes No : A → Type 0) {P Q : ℕ → Type 0} (b : Bool) →
    MatchBool b ((k : ℕ) × (k < length l) × P k) ((k : ℕ) → k < length l → Q k) →
    ((k : ℕ) → k < length l → P k → Yes (get_or l k d)) → ((k : ℕ) → k < length l → Q k → No (get_or l k d)) →
    MatchBool b ((x : A) × Mem x l × Yes x) ((x : A) → Mem x l → No x)
some_or_each l d Yes No true (k, h, p) passes fails = (get_or l k d, mem_at l k d h, passes k h p)
some_or_each l d Yes No false all passes fails = all_mem No l d (λ k h. fails k h (all k h))
