-- What each test tells: it passes exactly if a statement holds.
use Rattle.std.specs.Prelude.{ℕ, ◌≤◌, ◌≡◌, Bool, true, false, not, ◌⊎◌, eqb, leb, MatchBool}
use Rattle.std.proofs.Math.Path.{refl, subst}
use Rattle.std.proofs.Common.{sym, ap, ◌∙◌, inl, inr, ⊎_elim, leb→le, le→leb}
use Rattle.std.proofs.lemmas.Bool.{false≢true}
use mathlib.Core.List.{List, [], ◌∷◌, ◌++◌, append_assoc, append-nil, nil≢cons, head-eq_of_cons-eq, tail-eq_of_cons-eq}
use mathlib.Core.List.Memᴰ
use mathlib.Core.List.Memᴰ.{head as Mem·head}
use mathlib.Core.List.Memᴰ.{tail as Mem·tail}
use mathlib.Core.List.{Memᴰ as Mem}
use Rattle.theory.proofs.Basics.{is_true_true, eqb-eq, eqb_same}
use Rattle.theory.specs.Table.{has, is_empty, Subset}
use Rattle.theory.proofs.Table.Actions.{has-mem, mem_has}
use Rattle.table.specs.Tests.{all, any, places, subset, first_is, only_is}

-- the test passes exactly if the statement holds
pub record Tells (b : Bool) (P : Type 0) : Type 0 where
  pub holds : b ≡ true → P
  pub shows : P → b ≡ true

-- where the test passes the statement holds
pub told : {b : Bool} {P : Type 0} → Tells b P → b ≡ true → P
told t = t.holds

-- where the test fails the statement does not hold
pub refutes : {b : Bool} {P : Type 0} → Tells b P → b ≡ false → P → ⊥
refutes t e p = false≢true (sym e ∙ t.shows p)

-- the same of a statement that says the same
pub tells_as : {b : Bool} {P Q : Type 0} → (P → Q) → (Q → P) → Tells b P → Tells b Q
tells_as f g t = record { holds = λ e. f (t.holds e); shows = λ q. t.shows (g q) }

-- a test that always passes tells nothing
pub tells_true : Tells true Unit
tells_true = record { holds = λ e. tt; shows = λ u. refl }

-- what holds is told by a test that passes
pub tells_yes : {P : Type 0} → P → Tells true P
tells_yes p = record { holds = λ e. p; shows = λ q. refl }

-- what does not hold is told by a test that fails
pub tells_no : {P : Type 0} → (P → ⊥) → Tells false P
tells_no n = record { holds = λ e. absurd (false≢true e); shows = λ p. absurd (n p) }

-- a test that finds the one of two statements that exclude each other, and a test that finds the other
pub tells_found : {P Q : Type 0} (b : Bool) → MatchBool b P Q → (P → Q → ⊥) → Tells b P
tells_found true p n = tells_yes p
tells_found false q n = tells_no (λ p. n p q)

pub tells_missed : {P Q : Type 0} (b : Bool) → MatchBool b P Q → (P → Q → ⊥) → Tells (not b) Q
tells_missed true p n = tells_no (λ q. n p q)
tells_missed false q n = tells_yes q

-- ---- connectives

-- both
pub tells_and : {a b : Bool} {P Q : Type 0} → Tells a P → Tells b Q → Tells (elim a [ true ↦ b | false ↦ false ]) (P × Q)
tells_and {a = true} x y = record { holds = λ e. (x.holds refl, y.holds e); shows = λ (p, q). y.shows q }
tells_and {a = false} x y = record { holds = λ e. absurd (false≢true e); shows = λ (p, q). x.shows p }

-- the one, if the other
pub tells_imp : {a b : Bool} {P Q : Type 0} → Tells a P → Tells b Q → Tells (elim a [ true ↦ b | false ↦ true ]) (P → Q)
tells_imp {a = true} x y = record { holds = λ e p. y.holds e; shows = λ f. y.shows (f (x.holds refl)) }
tells_imp {a = false} x y = record { holds = λ e p. absurd (refutes x refl p); shows = λ f. refl }

-- either
pub tells_or : {a b : Bool} {P Q : Type 0} → Tells a P → Tells b Q → Tells (elim a [ true ↦ true | false ↦ b ]) (P ⊎ Q)
tells_or {a = true} x y = record { holds = λ e. inl (x.holds refl); shows = λ o. refl }
tells_or {a = false} x y =
    record { holds = λ e. inr (y.holds e); shows = λ o. ⊎_elim (λ p. absurd (refutes x refl p)) (λ q. y.shows q) o }

-- not
pub tells_not : {a : Bool} {P : Type 0} → Tells a P → Tells (not a) (P → ⊥)
tells_not {a = true} x = record { holds = λ e p. false≢true e; shows = λ f. absurd (f (x.holds refl)) }
tells_not {a = false} x = record { holds = λ e. refutes x refl; shows = λ f. refl }

-- one test where another passes, and a third where it fails
pub tells_if : {a b c : Bool} {P Q S : Type 0} → Tells a P → Tells b Q → Tells c S →
    Tells (elim a [ true ↦ b | false ↦ c ]) ((P → Q) × ((P → ⊥) → S))
tells_if {a = true} x y z = record {
  holds = λ e. (λ p. y.holds e, λ n. absurd (n (x.holds refl)));
  shows = λ (f, h). y.shows (f (x.holds refl));
}
tells_if {a = false} x y z = record {
  holds = λ e. (λ p. absurd (refutes x refl p), λ n. z.holds e);
  shows = λ (f, h). z.shows (h (refutes x refl));
}

-- ---- numbers

-- equal
pub tells_eq : (m n : ℕ) → Tells (eqb m n) (m ≡ n)
tells_eq m n = record { holds = eqb-eq m n; shows = λ e. rw e (eqb_same n) }

-- at most
pub tells_le : (m n : ℕ) → Tells (leb m n) (m ≤ n)
tells_le m n = record { holds = λ e. leb→le m n (rw e tt); shows = λ l. is_true_true (leb m n) (le→leb m n l) }

-- ---- lists of numbers

-- a member
pub tells_has : (xs : List ℕ) (a : ℕ) → Tells (has xs a) (Mem a xs)
tells_has xs a = record { holds = has-mem xs a; shows = mem_has }

-- no member
pub tells_empty : (l : List ℕ) → Tells (is_empty l) (l ≡ [])
unfolding is_empty
tells_empty [] = record { holds = λ e. refl; shows = λ e. refl }
tells_empty (x ∷ xs) = record { holds = λ e. absurd (false≢true e); shows = λ e. absurd (nil≢cons (sym e)) }

-- the first member
pub tells_first : (l : List ℕ) (x : ℕ) → Tells (first_is l x) ((more : List ℕ) × (l ≡ x ∷ more))
unfolding first_is
tells_first [] x = record { holds = λ e. absurd (false≢true e); shows = λ (m, e). absurd (nil≢cons e) }
tells_first (y ∷ ys) x = record {
  holds = λ e. (ys, ap (λ (z : ℕ). z ∷ ys) (eqb-eq y x e));
  shows = λ (m, e). (tells_eq y x).shows (head-eq_of_cons-eq e);
}

-- the one member
pub tells_only : (l : List ℕ) (x : ℕ) → Tells (only_is l x) (l ≡ x ∷ [])
unfolding only_is
tells_only [] x = record { holds = λ e. absurd (false≢true e); shows = λ e. absurd (nil≢cons e) }
tells_only (y ∷ []) x = record {
  holds = λ e. ap (λ (z : ℕ). z ∷ []) (eqb-eq y x e);
  shows = λ e. (tells_eq y x).shows (head-eq_of_cons-eq e);
}
tells_only (y ∷ z ∷ zs) x = record { holds = λ e. absurd (false≢true e); shows = λ e. absurd (nil≢cons (sym (tail-eq_of_cons-eq e))) }

-- ---- members

module _ {A : Type 0} where
  -- every member has it
  pub tells_all : {f : A → Bool} {P : A → Type 0} (xs : List A) → ((x : A) → Mem x xs → Tells (f x) (P x)) → Tells (all f xs) ((x : A) → Mem x xs → P x)
  unfolding all
  tells_all [] t = record { holds = λ e x m. absurd (Memᴰ.not-nil m); shows = λ h. refl }
  tells_all {f} {P} (y ∷ ys) t =
      tells_as to (λ h. (h y (Mem·head refl), λ x m. h x (Mem·tail m)))
      (tells_and (t y (Mem·head refl)) (tells_all ys (λ x m. t x (Mem·tail m))))
    where
      to : P y × ((x : A) → Mem x ys → P x) → (x : A) → Mem x (y ∷ ys) → P x
      to (p, h) x (Mem·head e) = subst P (sym e) p
      to (p, h) x (Mem·tail m) = h x m

  -- some member has it
  pub tells_any : {f : A → Bool} {P : A → Type 0} (xs : List A) → ((x : A) → Mem x xs → Tells (f x) (P x)) → Tells (any f xs) ((x : A) × Mem x xs × P x)
  unfolding any
  tells_any [] t = record { holds = λ e. absurd (false≢true e); shows = λ (x, m, p). absurd (Memᴰ.not-nil m) }
  tells_any {f} {P} (y ∷ ys) t = tells_as to from (tells_or (t y (Mem·head refl)) (tells_any ys (λ x m. t x (Mem·tail m))))
    where
      to : P y ⊎ ((x : A) × Mem x ys × P x) → (x : A) × Mem x (y ∷ ys) × P x
      to (inl p) = (y, Mem·head refl, p)
      to (inr (x, m, p)) = (x, Mem·tail m, p)

      from : (x : A) × Mem x (y ∷ ys) × P x → P y ⊎ ((x : A) × Mem x ys × P x)
      from (x, Mem·head e, p) = inl (subst P e p)
      from (x, Mem·tail m, p) = inr (x, m, p)

  -- every place of a list, given by what stands before it
  abbrev pub Places : (List A → A → Type 0) → List A → List A → Type 0
  Places P seen xs = (before after : List A) (x : A) → xs ≡ before ++ (x ∷ after) → P (seen ++ before) x

  -- every place has it
  pub tells_places : {f : List A → A → Bool} {P : List A → A → Type 0} → ((seen : List A) (x : A) → Tells (f seen x) (P seen x)) →
      (seen xs : List A) → Tells (places f seen xs) (Places P seen xs)
  unfolding places
  tells_places t seen [] = record { holds = λ e before after x q. absurd (none before after x q); shows = λ h. refl }
    where
      none : (before after : List A) (x : A) → [] ≡ before ++ (x ∷ after) → ⊥
      none [] after x q = nil≢cons q
      none (y ∷ before) after x q = nil≢cons q
  tells_places {f} {P} t seen (y ∷ ys) = tells_as to from (tells_and (t seen y) (tells_places t (seen ++ (y ∷ [])) ys))
    where
      to : P seen y × Places P (seen ++ (y ∷ [])) ys → Places P seen (y ∷ ys)
      to (p, h) [] after x q = subst (λ l. P l x) (sym (append-nil seen)) (subst (P seen) (head-eq_of_cons-eq q) p)
      to (p, h) (z ∷ before) after x q =
          let here : P ((seen ++ (y ∷ [])) ++ before) x = h before after x (tail-eq_of_cons-eq q) in
          subst (λ c. P (seen ++ (c ∷ before)) x) (head-eq_of_cons-eq q) (rw append_assoc at here)

      from : Places P seen (y ∷ ys) → P seen y × Places P (seen ++ (y ∷ [])) ys
      from h = (
        subst (λ l. P l y) (append-nil seen) (h [] ys y refl),
        λ before after x q. rw append_assoc (h (y ∷ before) after x (ap {B = List A} (λ l. y ∷ l) q)),
      )

-- all of the one are in the other
pub tells_subset : (xs ys : List ℕ) → Tells (subset xs ys) (Subset xs ys)
unfolding subset
tells_subset xs ys = tells_all xs (λ x m. tells_has ys x)
