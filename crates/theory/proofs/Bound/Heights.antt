-- Heights of symbols: numbers that fall along the rules whose right side is one symbol. Where no such rule is, all heights are 0. Otherwise
-- the height is the longest way up through such rules that meets no nonterminal twice; without unit rings one more rule makes it longer,
-- and it is at most the number of nonterminals.
use Prim.Native.Nat.{ℕ, zero, suc, ◌+◌, ◌≤◌, ◌<◌, max}
use Rattle.std.specs.Prelude.{◌≡◌, Bool, true, false, cond, not, ◌&&◌, ◌⊎◌, length, eqb, T}
use Rattle.std.proofs.Math.Path.{refl}
use Rattle.std.proofs.Common.{sym, ap, subst, ◌∙◌, inl, inr, ⊎_elim, T_not, eqb→eq, le_trans}
use mathlib.Core.List.{List, [], ◌∷◌}
use mathlib.Core.List.Memᴰ.{head as Mem·head}
use mathlib.Core.List.Memᴰ.{tail as Mem·tail}
use mathlib.Core.List.{Memᴰ as Mem}
use Rattle.std.proofs.Math.Dec.{eqb_refl}
use native.Mathlib.Omega.{arith}
use Rattle.std.proofs.Math.Nat.{max-le, le-max_left, le-max_right}
use Rattle.std.proofs.Math.Decide.{ℕ_discrete}
use Rattle.theory.proofs.Basics.{is_true_true, is_true_and, is_true_both}
use Rattle.theory.specs.Grammar.{Rule, Grammar, UnitTo, one, then, WellFormed, NoRing}
use Rattle.theory.specs.Table.{has}
use Rattle.theory.proofs.Table.Actions.{has_first, has-later, has-cons}
use Rattle.theory.specs.Bound.Heights.{Height, Flat}

-- there all heights are 0
pub flat_height : (g : Grammar) → Flat g → Height g 0
flat_height g f = record { of = λ x. 0; most = λ x. omega arith; falls = λ r b m e. absurd (f r b m e) }

-- ---- the height of a symbol: the longest way up from it through one-symbol rules that meets no nonterminal twice

remove : ℕ → List ℕ → List ℕ
remove y [] = []
remove y (x ∷ xs) = cond (eqb x y) (remove y xs) (x ∷ remove y xs)

is_unit : List ℕ → ℕ → Bool
is_unit [] x = false
is_unit (b ∷ []) x = eqb b x
is_unit (b ∷ (c ∷ more)) x = false

-- the most of one more than f over the left sides in the list L of the rules to x
most_over : List Rule → List ℕ → ℕ → (ℕ → ℕ) → ℕ
most_over [] L x f = 0
most_over (r ∷ rs) L x f = max (cond (is_unit r.right x && has L r.left) (suc (f r.left)) 0) (most_over rs L x f)

ups : Grammar → ℕ → List ℕ → ℕ → ℕ
ups g zero L x = 0
ups g (suc k) L x = most_over g.rules L x (λ y. ups g k (remove y L) y)

-- the nonterminals
numbers : ℕ → ℕ → List ℕ
numbers a zero = []
numbers a (suc n) = a ∷ numbers (suc a) n

-- ---- lists of numbers

has-remove : (y z : ℕ) (l : List ℕ) → T (has (remove y l) z) → T (has l z) × (z ≡ y → ⊥)
unfolding remove has
has-remove y z [] h = absurd h
has-remove y z (x ∷ xs) h = go (eqb x y) (λ n e. T_not (eqb x y) n (subst (λ v. T (eqb x v)) e (eqb_refl x))) h (λ h'. has-remove y z xs h')
  where
    go : (b : Bool) → (T (not b) → x ≡ y → ⊥) → T (has (cond b (remove y xs) (x ∷ remove y xs)) z) →
        (T (has (remove y xs) z) → T (has xs z) × (z ≡ y → ⊥)) → T (has (x ∷ xs) z) × (z ≡ y → ⊥)
    go true n h ih = let i = ih h in (has-later x z xs i.0, i.1)
    go false n h ih = ⊎_elim (λ e. (subst (λ v. T (has (x ∷ xs) v)) e (has_first x xs), (λ q. n tt (e ∙ q))))
        (λ h'. let i = ih h' in (has-later x z xs i.0, i.1)) (has-cons x z (remove y xs) h)

remove_has : (y z : ℕ) (l : List ℕ) → T (has l z) → (z ≡ y → ⊥) → T (has (remove y l) z)
unfolding remove
remove_has y z [] h n = h
remove_has y z (x ∷ xs) h n = go (eqb x y) (eqb→eq x y) (has-cons x z xs h) (λ h'. remove_has y z xs h' n)
  where
    go : (b : Bool) → (T b → x ≡ y) → (x ≡ z) ⊎ T (has xs z) → (T (has xs z) → T (has (remove y xs) z)) →
        T (has (cond b (remove y xs) (x ∷ remove y xs)) z)
    go true f (inl e) ih = absurd (n (sym e ∙ f tt))
    go true f (inr h') ih = ih h'
    go false f (inl e) ih = subst (λ v. T (has (x ∷ remove y xs) v)) e (has_first x (remove y xs))
    go false f (inr h') ih = has-later x z (remove y xs) (ih h')

remove_le : (y : ℕ) (l : List ℕ) → length (remove y l) ≤ length l
unfolding remove
remove_le y [] = omega arith
remove_le y (x ∷ xs) = go (eqb x y) (remove_le y xs)
  where
    go : (b : Bool) → length (remove y xs) ≤ length xs → length (cond b (remove y xs) (x ∷ remove y xs)) ≤ suc (length xs)
    go true i = omega arith
    go false i = omega arith

remove_lt : (y : ℕ) (l : List ℕ) → T (has l y) → length (remove y l) < length l
unfolding remove has
remove_lt y [] h = absurd h
remove_lt y (x ∷ xs) h = go (eqb x y) h (remove_le y xs) (λ h'. remove_lt y xs h')
  where
    go : (b : Bool) → T (cond b true (has xs y)) → length (remove y xs) ≤ length xs → (T (has xs y) → length (remove y xs) < length xs) →
        length (cond b (remove y xs) (x ∷ remove y xs)) < suc (length xs)
    go true h i ih = omega arith
    go false h i ih = let j = ih h in omega arith

numbers-length : (a n : ℕ) → length (numbers a n) ≡ n
unfolding numbers
numbers-length a zero = refl
numbers-length a (suc n) = ap suc (numbers-length (suc a) n)

numbers-has : (a n x : ℕ) → a ≤ x → x < a + n → T (has (numbers a n) x)
unfolding numbers
numbers-has a zero x l h = absurd (omega arith)
numbers-has a (suc n) x l h = go (ℕ_discrete a x) (λ l'. numbers-has (suc a) n x l' (omega arith))
  where
    go : Dec (a ≡ x) → (suc a ≤ x → T (has (numbers (suc a) n) x)) → T (has (a ∷ numbers (suc a) n) x)
    go (yes e) f = subst (λ v. T (has (a ∷ numbers (suc a) n) v)) e (has_first a (numbers (suc a) n))
    go (no d) f = has-later a x (numbers (suc a) n) (f (omega arith))

-- ---- one-symbol rules

unit_in : (l : List ℕ) (x : ℕ) → T (is_unit l x) → l ≡ x ∷ []
unfolding is_unit
unit_in [] x h = absurd h
unit_in (b ∷ []) x h = ap {B = List ℕ} (λ v. v ∷ []) (eqb→eq b x h)
unit_in (b ∷ (c ∷ more)) x h = absurd h

unit_of : (l : List ℕ) (x : ℕ) → l ≡ x ∷ [] → T (is_unit l x)
unfolding is_unit
unit_of l x e = subst (λ v. T (is_unit v x)) (sym e) (eqb_refl x)

-- a bound of the most
over_le : (rs : List Rule) (L : List ℕ) (x : ℕ) (f : ℕ → ℕ) (n : ℕ) →
    ((r : Rule) → Mem r rs → r.right ≡ x ∷ [] → T (has L r.left) → suc (f r.left) ≤ n) → most_over rs L x f ≤ n
unfolding most_over
over_le [] L x f n h = omega arith
over_le (r ∷ rs) L x f n h =
    max-le (go (is_unit r.right x && has L r.left) (λ b. let c = is_true_and (is_unit r.right x) (has L r.left) b in
    h r (Mem·head refl) (unit_in r.right x c.0) c.1))
    (over_le rs L x f n (λ s m. h s (Mem·tail m)))
  where
    go : (b : Bool) → (T b → suc (f r.left) ≤ n) → cond b (suc (f r.left)) 0 ≤ n
    go true g = g tt
    go false g = omega arith

-- each counts in it
over_ge : {r : Rule} {rs : List Rule} (L : List ℕ) (x : ℕ) (f : ℕ → ℕ) → Mem r rs → r.right ≡ x ∷ [] → T (has L r.left) →
    suc (f r.left) ≤ most_over rs L x f
unfolding most_over
over_ge {r} L x f (Mem·head {x = s} {xs = rs} q) e h =
    let t = subst (λ (v : Rule). T (is_unit v.right x && has L v.left)) q
    (is_true_both (is_unit r.right x) (has L r.left) (unit_of r.right x e) h) in
    subst (λ (v : Rule). suc (f v.left) ≤ most_over (s ∷ rs) L x f) (sym q)
    (le_trans (rw (is_true_true (is_unit s.right x && has L s.left) t) (omega arith))
    (le-max_left (cond (is_unit s.right x && has L s.left) (suc (f s.left)) 0) (most_over rs L x f)))
over_ge L x f (Mem·tail {x = s} {xs = rs} m) e h =
    le_trans (over_ge L x f m e h) (le-max_right (cond (is_unit s.right x && has L s.left) (suc (f s.left)) 0) (most_over rs L x f))

module _ (g : Grammar) where
  -- a way up with k fuel has at most k steps
  ups_le : (k : ℕ) (L : List ℕ) (x : ℕ) → ups g k L x ≤ k
  unfolding ups
  ups_le zero L x = omega arith
  ups_le (suc k) L x = over_le g.rules L x (λ y. ups g k (remove y L) y) (suc k)
      (λ r m e h. omega (arith, ups_le k (remove r.left L) r.left))

  -- it needs only the nonterminals above x
  ups_above : (k : ℕ) (L L' : List ℕ) (x : ℕ) → ((y : ℕ) → UnitTo g y x → T (has L y) → T (has L' y)) → ups g k L x ≤ ups g k L' x
  unfolding ups
  ups_above zero L L' x f = omega arith
  ups_above (suc k) L L' x f =
      over_le g.rules L x (λ y. ups g k (remove y L) y) (most_over g.rules L' x (λ y. ups g k (remove y L') y)) (λ r m e h.
      let i = ups_above k (remove r.left L) (remove r.left L') r.left (λ y u p.
      let q = has-remove r.left y L p in
      remove_has r.left y L' (f y (then u (one r m e)) q.0) q.1) in
      omega (arith, over_ge L' x (λ y. ups g k (remove y L') y) m e (f r.left (one r m e) h)))

  -- and no more fuel than the list is long
  ups_fuel : (k : ℕ) (L : List ℕ) (x : ℕ) → length L ≤ k → ups g (suc k) L x ≤ ups g k L x
  unfolding ups has
  ups_fuel zero [] x l = over_le g.rules [] x (λ y. ups g zero (remove y []) y) 0 (λ r m e h. absurd h)
  ups_fuel zero (y ∷ ys) x l = absurd (omega arith)
  ups_fuel (suc k) L x l =
      over_le g.rules L x (λ y. ups g (suc k) (remove y L) y) (most_over g.rules L x (λ y. ups g k (remove y L) y)) (λ r m e h.
      let s = remove_lt r.left L h in
      let i = ups_fuel k (remove r.left L) r.left (omega arith) in
      omega (arith, over_ge L x (λ y. ups g k (remove y L) y) m e h))

  -- without unit rings the longest way up is a height, at most the number of nonterminals
  pub height : WellFormed g → NoRing g → Height g g.nonterms
  unfolding ups
  height W R = record { of = top g.nonterms; most = ups_le g.nonterms all_nonterms; falls = λ r b m e. falls g.nonterms refl r b m e }
    where
      all_nonterms : List ℕ
      all_nonterms = numbers (suc g.terms) g.nonterms

      top : ℕ → ℕ → ℕ
      top k x = ups g k all_nonterms x

      falls : (k : ℕ) → g.nonterms ≡ k → (r : Rule) (b : ℕ) → Mem r g.rules → r.right ≡ b ∷ [] → top k r.left < top k b
      falls zero q r b m e = let h = W.has_start in absurd (omega arith)
      falls (suc k) q r b m e =
          let A = r.left in
          let n = W.lefts r m in
          let here = numbers-has (suc g.terms) g.nonterms A n.0 (let l = n.1 in omega arith) in
          let short = remove_lt A all_nonterms here in
          let fewer = ups_above (suc k) all_nonterms (remove A all_nonterms) A (λ y u p.
          remove_has A y all_nonterms p (λ z. R A n (subst (λ v. UnitTo g v A) z u))) in
          let less = ups_fuel k (remove A all_nonterms) A (omega (arith, numbers-length (suc g.terms) g.nonterms)) in
          omega (arith, over_ge all_nonterms b (λ y. ups g k (remove y all_nonterms) y) m e here)
