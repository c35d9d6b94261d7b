-- Lemmas on tests and on lists that several files use.
-- Tests: what `T` and an equation with `true` say of each other, of `||`, of `&&` and of `eqb`.
-- Lists: the rest of a list at a place, the place of a member, and that of two members one stands first.
use Rattle.std.specs.Prelude.{ℕ, zero, suc, ◌≤◌, ◌<◌, ◌≡◌, refl, Bool, true, false, ◌||◌, ◌&&◌, ◌⊎◌, length, get_or, take, drop, T, eqb}
use Rattle.std.proofs.Common.{suc-le-suc, zero-le, not-suc-le-zero, le_of_suc-le-suc, sym, ap, ◌∙◌, inl, inr, ⊎_elim, take-append-drop, eqb→eq}
use Rattle.std.proofs.lemmas.Bool.{false≢true}
use mathlib.Core.List.{List, [], ◌∷◌, ◌++◌, nil≢cons, head-eq_of_cons-eq}
use mathlib.Core.List.Memᴰ.{head as Mem·head}
use mathlib.Core.List.Memᴰ.{tail as Mem·tail}
use mathlib.Core.List.{Memᴰ as Mem}
use Rattle.std.proofs.Math.Dec.{eqb_refl}
use Rattle.theory.specs.Basics.{Before}

-- ---- tests

-- a test passes or fails
pub test : (b : Bool) → (b ≡ true) ⊎ (b ≡ false)
test true = inl refl
test false = inr refl

-- both of two tests
pub both : (a b : Bool) → (a && b) ≡ true → (a ≡ true) × (b ≡ true)
both true b e = (refl, e)
both false b e = absurd (false≢true e)

pub is_true_true : (b : Bool) → T b → b ≡ true
is_true_true true t = refl
is_true_true false t = absurd t

pub is_true_or : (a b : Bool) → T (a || b) → T a ⊎ T b
is_true_or true b t = inl tt
is_true_or false b t = inr t

pub is_true_left : (a b : Bool) → T a → T (a || b)
is_true_left true b t = tt
is_true_left false b t = absurd t

pub is_true_right : (a b : Bool) → T b → T (a || b)
is_true_right true b t = tt
is_true_right false b t = t

pub is_true_and : (a b : Bool) → T (a && b) → T a × T b
is_true_and true b t = (tt, t)
is_true_and false b t = absurd t

pub is_true_both : (a b : Bool) → T a → T b → T (a && b)
is_true_both true b x y = y
is_true_both false b x y = absurd x

pub eqb-eq : (m n : ℕ) → eqb m n ≡ true → m ≡ n
eqb-eq m n e = eqb→eq m n (rw e tt)

pub eqb_same : (n : ℕ) → eqb n n ≡ true
eqb_same n = is_true_true (eqb n n) (eqb_refl n)

-- ---- the rest of a list at a place

-- one more dropped: the tail of what was left
pub drop-next : (n : ℕ) (l : List ℕ) {x : ℕ} {xs : List ℕ} → drop n l ≡ x ∷ xs → drop (suc n) l ≡ xs
drop-next zero [] e = absurd (nil≢cons e)
drop-next zero (y ∷ ys) e = cc
drop-next (suc n) [] e = absurd (nil≢cons e)
drop-next (suc n) (y ∷ ys) e = drop-next n ys e

-- one more taken: what the rest begins with
pub take_next : (d : ℕ) (l : List ℕ) {x : ℕ} {more : List ℕ} → drop d l ≡ x ∷ more → take (suc d) l ≡ take d l ++ (x ∷ [])
take_next zero [] e = absurd (nil≢cons e)
take_next zero (y ∷ l) e = ap (λ (n : ℕ). n ∷ []) (head-eq_of_cons-eq e)
take_next (suc d) [] e = absurd (nil≢cons e)
take_next (suc d) (y ∷ l) e = ap (λ (k : List ℕ). y ∷ k) (take_next d l e)

-- what the rest begins with stands at that place
pub drop-get_d : (d : ℕ) (l : List ℕ) (x : ℕ) (more : List ℕ) → drop d l ≡ x ∷ more → get_or l d 0 ≡ x
drop-get_d zero [] x more e = absurd (nil≢cons e)
drop-get_d zero (y ∷ ys) x more e = head-eq_of_cons-eq e
drop-get_d (suc d) [] x more e = absurd (nil≢cons e)
drop-get_d (suc d) (y ∷ ys) x more e = drop-get_d d ys x more e

-- and is a member
pub drop-mem : (d : ℕ) (l : List ℕ) (x : ℕ) (more : List ℕ) → drop d l ≡ x ∷ more → Mem x l
drop-mem zero [] x more e = absurd (nil≢cons e)
drop-mem zero (y ∷ ys) x more e = Mem·head (sym (head-eq_of_cons-eq e))
drop-mem (suc d) [] x more e = absurd (nil≢cons e)
drop-mem (suc d) (y ∷ ys) x more e = Mem·tail (drop-mem d ys x more e)

-- a rest that is there, and one that is not
pub drop-bound : (d : ℕ) (l : List ℕ) {x : ℕ} {more : List ℕ} → drop d l ≡ x ∷ more → suc d ≤ length l
drop-bound zero [] e = absurd (nil≢cons e)
drop-bound zero (y ∷ l) e = suc-le-suc zero-le
drop-bound (suc d) [] e = absurd (nil≢cons e)
drop-bound (suc d) (y ∷ l) e = suc-le-suc (drop-bound d l e)

pub drop-done : (d : ℕ) (l : List ℕ) → drop d l ≡ [] → length l ≤ d
drop-done d [] e = zero-le
drop-done zero (y ∷ l) e = absurd (nil≢cons (sym e))
drop-done (suc d) (y ∷ l) e = suc-le-suc (drop-done d l e)

pub drop-some : (n : ℕ) (l : List ℕ) → n < length l → (v : ℕ) × (under : List ℕ) × (drop n l ≡ v ∷ under)
drop-some n [] h = absurd (not-suc-le-zero h)
drop-some zero (x ∷ l) h = (x, l, refl)
drop-some (suc n) (x ∷ l) h = drop-some n l (le_of_suc-le-suc h)

-- a list cut at a place of which the rest is known
pub cut_at : (d : ℕ) (l : List ℕ) {r : List ℕ} → drop d l ≡ r → l ≡ take d l ++ r
cut_at d l e = sym (take-append-drop d l) ∙ ap (λ (k : List ℕ). take d l ++ k) e

-- ---- members and their places

-- what stands at a place is a member, or the place is past the end
pub get_d_cases : {A : Type 0} (l : List A) (n : ℕ) (d : A) → Mem (get_or l n d) l ⊎ ((length l ≤ n) × (get_or l n d ≡ d))
get_d_cases [] n d = inr (zero-le, refl)
get_d_cases (x ∷ l) zero d = inl (Mem·head refl)
get_d_cases (x ∷ l) (suc n) d = ⊎_elim (λ m. inl (Mem·tail m)) (λ e. inr (suc-le-suc e.0, e.1)) (get_d_cases l n d)

-- a member stands at a place
pub place : {A : Type 0} (d : A) {x : A} {l : List A} → Mem x l → (n : ℕ) × (n < length l) × (get_or l n d ≡ x)
place d (Mem·head e) = (0, suc-le-suc zero-le, sym e)
place d (Mem·tail m) = let (n, h, e) = place d m in (suc n, suc-le-suc h, e)

-- a list is what stands before a member, the member and what stands after it
pub mem_split : {A : Type 0} {x : A} {l : List A} → Mem x l → (before : List A) × (after : List A) × (l ≡ before ++ (x ∷ after))
mem_split {A} (Mem·head {xs = xs} e) = ([], xs, ap {B = List A} (λ y. y ∷ xs) (sym e))
mem_split {A} (Mem·tail {x = y} m) = let (b, c, e) = mem_split m in (y ∷ b, c, ap {B = List A} (λ k. y ∷ k) e)

-- two members are the same, or one stands before the other
pub mem_order : {A : Type 0} {x y : A} {l : List A} → Mem x l → Mem y l → (x ≡ y) ⊎ (Before x y l ⊎ Before y x l)
mem_order (Mem·head e) (Mem·head e') = inl (e ∙ sym e')
mem_order (Mem·head {x = z} e) (Mem·tail n) = let (b, c, q) = mem_split n in inr (inl (z ∷ b, c, ap {B = List _} (λ k. z ∷ k) q, Mem·head e))
mem_order (Mem·tail {x = z} m) (Mem·head e) = let (b, c, q) = mem_split m in inr (inr (z ∷ b, c, ap {B = List _} (λ k. z ∷ k) q, Mem·head e))
mem_order (Mem·tail {x = z} m) (Mem·tail n) =
    ⊎_elim (λ e. inl e) (λ o. inr (⊎_elim (λ (b, c, q, k). inl (z ∷ b, c, ap {B = List _} (λ k. z ∷ k) q, Mem·tail k))
    (λ (b, c, q, k). inr (z ∷ b, c, ap {B = List _} (λ k. z ∷ k) q, Mem·tail k)) o)) (mem_order m n)
