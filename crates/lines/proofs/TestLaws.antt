-- Laws on the tests of a line: the library's tests over a list, and look-ahead sets one member at a time.
use Prim.Native.Nat.{ℕ, zero, suc, ◌+◌, ◌-◌, ◌≤◌, ◌<◌}
use native.Mathlib.Omega.{arith}
use native.Mathlib.Decide.{dec_le}
use native.Mathlib.Numerals.{add-one}
use mathlib.Core.Path.{◌≡◌, refl, sym, ap, ◌∙◌}
use mathlib.Core.Bool.{Bool, true, false, ◌&&◌, and-true, and-false}
use mathlib.Core.List.{List, [], ◌∷◌}
use lib.ListN.{length, get_or, take, drop}
use lib.Seq.{drop-cons, drop-length}
use lib.Dec.{leb, ltb, leb-zero}
use Rattle.std.specs.List.{list_all, IsAllAdjacentAnswer}
use borrow.Author.Tests.{leb-true, ltb-true, le-leb, lt-leb}
use Rattle.std.proofs.lemmas.Bool.{and_parts}
use Rattle.std.proofs.lemmas.List.{get_or_default, take_rest}
use Rattle.lines.specs.Lines.Fits.{all, rises_from, rises, is_ahead, ahead_fits}

-- ---- a member of a list

-- inside the list the default does not matter
pub inside : (l : List ℕ) (i d e : ℕ) → i < length l → get_or l i d ≡ get_or l i e
inside l i d e h = get_or_default l i d e h

-- a part up to the end is the rest
pub part_rest : (k : ℕ) (l : List ℕ) → take (length l - k) (drop k l) ≡ drop k l
part_rest k l = take_rest l k

-- ---- every member passes

-- the library's test of every member is the specification's
pub all-listed : (f : ℕ → Bool) (s : List ℕ) → list_all f s ≡ all f s
unfolding all
all-listed f [] = refl
all-listed f (x ∷ s) = ap (λ (b : Bool). f x && b) (all-listed f s)

-- ---- look-ahead sets

-- a list rises where each member is below the next
rises_all : (x : ℕ) (ys : List ℕ) →
    ((k d : ℕ) → k + 1 < length (x ∷ ys) → true ≡ ltb (get_or (x ∷ ys) k d) (get_or (x ∷ ys) (k + 1) d)) →
    rises_from x ys ≡ true
unfolding rises_from
rises_all x [] h = refl
rises_all x (y ∷ ys) h =
    rw (← h 0 0 (omega arith)) (rises_all y ys (λ k d l. rw add-one (rw add-one at (h (suc k) d (omega arith)))))

-- and not where one is not below the next
rises_not : (x : ℕ) (ys : List ℕ) (k : ℕ) → k + 1 < length (x ∷ ys) →
    false ≡ ltb (get_or (x ∷ ys) k 0) (get_or (x ∷ ys) (k + 1) 0) → rises_from x ys ≡ false
unfolding rises_from
rises_not x [] k l e = absurd (omega arith)
rises_not x (y ∷ ys) zero l e = rw (← e) refl
rises_not x (y ∷ ys) (suc k) l e = rw (rises_not y ys k (omega arith) (rw add-one (rw add-one at e))) (and-false (ltb x y))

-- whether each member is below the next tells whether the list rises
rises_told : (xs : List ℕ) (r : Bool) → IsAllAdjacentAnswer (λ x y b. b ≡ ltb x y) xs r → r ≡ rises xs
unfolding rises
rises_told [] true h = refl
rises_told [] false (k, l, h) = absurd (omega arith)
rises_told (x ∷ ys) true h = sym (rises_all x ys h)
rises_told (x ∷ ys) false (k, l, h) = sym (rises_not x ys k l (h 0))

-- the last member, where there is one, is a kind or the end mark
abbrev pub last_in : ℕ → List ℕ → Bool
last_in t [] = true
last_in t (x ∷ xs) = is_ahead t (get_or (x ∷ xs) (length xs) 0)

-- a number below a kind or the end mark is one too
below_ahead : (t x y : ℕ) (ys : List ℕ) → x < y →
    (is_ahead t x && all (is_ahead t) (y ∷ ys)) ≡ all (is_ahead t) (y ∷ ys)
unfolding all
below_ahead t x y ys l = go (all (is_ahead t) (y ∷ ys)) refl
  where
    go : (b : Bool) → all (is_ahead t) (y ∷ ys) ≡ b →
        (is_ahead t x && all (is_ahead t) (y ∷ ys)) ≡ all (is_ahead t) (y ∷ ys)
    go true p =
        let k = leb-true y t (and_parts (is_ahead t y) (all (is_ahead t) ys) p).0 in
        rw (le-leb x t (omega arith)) refl
    go false p = rw p (and-false (is_ahead t x))

-- of a list that rises the last member tells for all
last_from : (t x : ℕ) (ys : List ℕ) → rises_from x ys ≡ true → all (is_ahead t) (x ∷ ys) ≡ last_in t (x ∷ ys)
unfolding all rises_from
last_from t x [] u = and-true (leb x t)
last_from t x (y ∷ ys) u =
    let (p, q) = and_parts (ltb x y) (rises_from y ys) u in
    below_ahead t x y ys (ltb-true x y p) ∙ last_from t y ys q

last_tells : (t : ℕ) (xs : List ℕ) → rises xs ≡ true → ahead_fits t xs ≡ last_in t xs
unfolding all rises
last_tells t [] u = refl
last_tells t (x ∷ ys) u =
    ap (λ (b : Bool). all (is_ahead t) (x ∷ ys) && b) u ∙ and-true (all (is_ahead t) (x ∷ ys)) ∙ last_from t x ys u

-- where each member is below the next, the last tells whether the set fits
pub rising_told : (t : ℕ) (xs : List ℕ) (r : Bool) → IsAllAdjacentAnswer (λ x y b. b ≡ ltb x y) xs r → r ≡ true →
    ahead_fits t xs ≡ last_in t xs
rising_told t xs r h e = last_tells t xs (sym (rises_told xs r h) ∙ e)

-- and where one is not, the set does not fit
pub falling_told : (t : ℕ) (xs : List ℕ) (r : Bool) → IsAllAdjacentAnswer (λ x y b. b ≡ ltb x y) xs r → r ≡ false →
    ahead_fits t xs ≡ false
falling_told t xs r h e =
    ap (λ (b : Bool). all (is_ahead t) xs && b) (sym (rises_told xs r h) ∙ e) ∙ and-false (all (is_ahead t) xs)

-- each member is above the one before it, the first at least the number
unfoldable pub rises_at : ℕ → List ℕ → Bool
rises_at least [] = true
rises_at least (y ∷ ys) = leb least y && rises_at (suc y) ys

-- a list that rises from x begins at least one above x
rises_from_law : (x : ℕ) (ys : List ℕ) → rises_from x ys ≡ rises_at (suc x) ys
unfolding rises_from rises_at
rises_from_law x [] = refl
rises_from_law x (y ∷ ys) = ap (λ (b : Bool). leb (suc x) y && b) (rises_from_law y ys)

-- a list rises exactly if it rises from 0 on
rises-at : (xs : List ℕ) → rises xs ≡ rises_at 0 xs
unfolding rises rises_at
rises-at [] = refl
rises-at (x ∷ xs) = rw (leb-zero x) (rises_from_law x xs)

-- what is left of a look-ahead set, whose next member is at least the number
abbrev ahead_at : ℕ → ℕ → List ℕ → Bool
ahead_at t least xs = all (is_ahead t) xs && rises_at least xs

-- the same, and the members before it, which rise up to below the number, are kinds or the end mark
abbrev pub ahead_from : ℕ → ℕ → List ℕ → Bool
ahead_from t least xs = leb least (suc t) && ahead_at t least xs

-- before the first member
pub ahead_start : (t : ℕ) (s : List ℕ) → ahead_fits t s ≡ ahead_from t 0 s
ahead_start t s = rw (leb-zero (suc t)) (ap (λ (b : Bool). all (is_ahead t) s && b) (rises-at s))

-- one member more
ahead_more : (t least : ℕ) (s : List ℕ) (i : ℕ) → i < length s →
    ahead_at t least (drop i s) ≡ (leb (get_or s i 0) t && all (is_ahead t) (drop (i + 1) s)) && (leb least (get_or s i 0) && rises_at (get_or s i 0 + 1) (drop (i + 1) s))
unfolding all rises_at
ahead_more t least s i h = rw (add-one i, drop-cons s i 0 h, add-one (get_or s i 0))

module _ (t least : ℕ) (s : List ℕ) (i : ℕ) where
  -- the next member does not rise
  pub ahead-low : i < length s → get_or s i 0 < least → ahead_from t least (drop i s) ≡ false
  ahead-low h k =
      ap (λ (b : Bool). leb least (suc t) && b)
      (ahead_more t least s i h ∙ rw (lt-leb least (get_or s i 0) k) (and-false (leb (get_or s i 0) t && all (is_ahead t) (drop (i + 1) s)))) ∙
      and-false (leb least (suc t))

  -- it rises
  pub ahead_rises : i < length s → least ≤ get_or s i 0 → ahead_from t least (drop i s) ≡ ahead_from t (get_or s i 0 + 1) (drop (i + 1) s)
  ahead_rises h j = by (dec_le (get_or s i 0) t)
    where
      by : Dec (get_or s i 0 ≤ t) → ahead_from t least (drop i s) ≡ ahead_from t (get_or s i 0 + 1) (drop (i + 1) s)
      by (yes k) =
          rw (le-leb least (suc t) (omega arith), le-leb (get_or s i 0 + 1) (suc t) (omega arith))
          (ahead_more t least s i h ∙ rw (le-leb (get_or s i 0) t k, le-leb least (get_or s i 0) j) refl)
      by (no k) =
          rw (lt-leb (get_or s i 0 + 1) (suc t) (omega arith))
          (ap (λ (b : Bool). leb least (suc t) && b) (ahead_more t least s i h ∙ rw (lt-leb (get_or s i 0) t (omega arith)) refl) ∙ and-false (leb least (suc t)))

  -- none is left
  pub none_left : i ≡ length s → ahead_from t least (drop i s) ≡ leb least (suc t)
  unfolding all rises_at
  none_left e = rw (e, drop-length s) (and-true (leb least (suc t)))
