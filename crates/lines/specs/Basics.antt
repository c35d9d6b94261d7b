-- Lemmas that several files use: contradictions, and what holds of every member.
use Rattle.std.specs.Prelude.{ℕ, ◌≡◌, refl, List, [], ◌∷◌, ◌++◌, map}
use Rattle.std.proofs.Common.{arith, sym, subst, ⊎_elim}
use mathlib.Core.List.Memᴰ
use mathlib.Core.List.Memᴰ.{head as Mem·head}
use mathlib.Core.List.Memᴰ.{tail as Mem·tail}
use mathlib.Core.List.{Memᴰ as Mem}

-- `never cc`: two constructors are not equal
pub never : {A : Type 0} → ◌≡◌ {A = ℕ} 0 1 → A
never e = let w : ⊥ = omega arith in absurd w

-- `impossible (omega arith)`: the numbers contradict each other
pub impossible : {A : Type 0} → ⊥ → A
impossible w = absurd w

-- every member is so
abbrev pub All : {A : Type 0} → (A → Type 0) → List A → Type 0
All {A} P xs = (x : A) → Mem x xs → P x

-- no member at all
pub all_nil : {A : Type 0} (P : A → Type 0) → All P []
all_nil P y m = absurd (Memᴰ.not-nil m)

-- the first and all others
pub all_cons : {A : Type 0} (P : A → Type 0) {x : A} {xs : List A} → P x → All P xs → All P (x ∷ xs)
all_cons P p h y m = ⊎_elim (λ e. subst P (sym e) p) (λ k. h y k) (Memᴰ.cases_cons m)

-- the first member
pub all_head : {A : Type 0} (P : A → Type 0) {x : A} {xs : List A} → All P (x ∷ xs) → P x
all_head P {x} h = h x (Mem·head refl)

-- the members after the first
pub all_tail : {A : Type 0} (P : A → Type 0) {x : A} {xs : List A} → All P (x ∷ xs) → All P xs
all_tail P h y m = h y (Mem·tail m)

-- the members of both lists
pub all_append : {A : Type 0} (P : A → Type 0) (xs ys : List A) → All P xs → All P ys → All P (xs ++ ys)
all_append P xs ys g h y m = ⊎_elim (λ k. g y k) (λ k. h y k) (Memᴰ.append_cases xs m)

-- the members of a list that was mapped
pub all_map : {A B : Type 0} (P : B → Type 0) (f : A → B) (xs : List A) → All (λ x. P (f x)) xs → All P (map f xs)
all_map P f [] h = all_nil P
all_map P f (x ∷ xs) h = all_cons P (h x (Mem·head refl)) (all_map P f xs (λ y m. h y (Mem·tail m)))
