-- Laws of the entries of the look-ups: of the first number that is not 0, of columns written one after the other, and of rows.
use Prim.Native.Nat.{ℕ, zero, suc, ◌+◌, ◌*◌, ◌≤◌, ◌<◌, ◌%◌}
use native.Mathlib.Omega.{arith}
use native.Mathlib.Decide.{ℕ_discrete, dec_lt}
use native.Mathlib.Nat.{mul-le-mul, mul-le-mul_right, mul-add-mod_self_right, mod-eq_of_lt}
use native.Mathlib.Numerals.{add-one}
use mathlib.Core.Path.{◌≡◌, refl, sym, ap, subst, ◌∙◌}
use mathlib.Core.Bool.{cond}
use mathlib.Core.List.{List, [], ◌∷◌, ◌++◌}
use lib.Dec.{eqb}
use lib.ListN.{length, get_or, set, take, replicate, length-set, length-replicate, get_or-replicate, get_or-eq_default}
use lib.Seq.{take-suc, take-length, get_or-set_same, get_or-set_other, set-get_or}
use borrow.Author.Tests.{eq-eqb, ne_eqb}
use Rattle.table.specs.LookUps.{Row, Grid}
use Rattle.table.specs.LookUps.Columns.{first, noted, Column, Columns}

-- ---- the first that is not 0

-- a second number that is 0 changes nothing
pub first-none : (x : ℕ) → first x 0 ≡ x
unfolding first
first-none zero = refl
first-none (suc x) = refl

-- of three numbers it does not matter which two are taken together
first-assoc : (x y z : ℕ) → first (first x y) z ≡ first x (first y z)
unfolding first
first-assoc zero y z = refl
first-assoc (suc x) y z = refl

-- the first that is not 0 of what the members of a list have; 0 if all have 0
unfoldable pub firsts : {A : Type 0} → (A → ℕ) → List A → ℕ
firsts f [] = 0
firsts f (x ∷ l) = first (f x) (firsts f l)

-- of a list with one member more at its end
firsts-append : {A : Type 0} (f : A → ℕ) (l : List A) (x : A) → firsts f (l ++ (x ∷ [])) ≡ first (firsts f l) (f x)
unfolding firsts first
firsts-append f [] x = first-none (f x)
firsts-append f (y ∷ l) x = ap (first (f y)) (firsts-append f l x) ∙ sym (first-assoc (f y) (firsts f l) (f x))

-- of a front that is longer by one
firsts_more : {A : Type 0} (f : A → ℕ) (l : List A) (k : ℕ) (d : A) → k < length l → firsts f (take (k + 1) l) ≡ first (firsts f (take k l)) (f (get_or l k d))
firsts_more f l k d h = ap (λ (n : ℕ). firsts f (take n l)) (add-one k) ∙ ap (firsts f) (take-suc l k d h) ∙ firsts-append f (take k l) (get_or l k d)

-- ---- one entry written

-- where nothing stood
pub noted-free : (l : List ℕ) (i x : ℕ) → get_or l i 0 ≡ 0 → set l i x ≡ noted l i x
unfolding first
noted-free l i x e = ap (λ (v : ℕ). set l i (first v x)) (sym e)

-- where something stood
pub noted-taken : (l : List ℕ) (i x : ℕ) → (get_or l i 0 ≡ 0 → ⊥) → l ≡ noted l i x
unfolding first
noted-taken l i x n = sym (ap (set l i) (keeps (get_or l i 0) n) ∙ set-get_or l i 0)
  where
    keeps : (v : ℕ) → (v ≡ 0 → ⊥) → first v x ≡ v
    keeps zero n = absurd (n refl)
    keeps (suc v) n = refl

-- ---- places in rows of m entries

-- two places are the same only in one column
same_column : (m y s z u : ℕ) → s < m → u < m → y * m + s ≡ z * m + u → s ≡ u
same_column m y s z u h g e =
    sym (mod-eq_of_lt h) ∙ sym (mul-add-mod_self_right y m s) ∙ ap (λ (n : ℕ). n % m) e ∙ mul-add-mod_self_right z m u ∙ mod-eq_of_lt g

-- and only in one row
same_row : (m y s z : ℕ) → s < m → y * m + s ≡ z * m + s → y ≡ z
same_row m y s z h e = go (dec_lt y z) (dec_lt z y)
  where
    go : Dec (y < z) → Dec (z < y) → y ≡ z
    go (yes l) o = absurd (omega (arith, mul-le-mul_right m l))
    go (no k) (yes l) = absurd (omega (arith, mul-le-mul_right m l))
    go (no k) (no l) = omega arith

-- a place is within its rows
pub in_rows : {h m y s : ℕ} → y < h → s < m → y * m + s < h * m
in_rows {h} {m} {y} {s} l k = omega (arith, mul-le-mul_right m l)

-- and within more and longer rows
pub in_size : {h m y s : ℕ} (rows states : ℕ) → y < h → s < m → h ≤ rows → m ≤ states → y * m + s < rows * states
in_size {h} {m} {y} {s} rows states l k a b = let p = in_rows {h = h} {m = m} {y = y} {s = s} l k in let q : h * m ≤ rows * states = mul-le-mul a b in omega arith

-- ---- one column

module _ {h m s : ℕ} where
  -- nothing is written
  pub column_none : {f : ℕ → ℕ} {l : List ℕ} → ((y : ℕ) → y < h → f y ≡ 0) → Column h m s f l l
  column_none {l = l} e = record {
    here = λ y k. sym (first-none (get_or l (y * m + s) 0)) ∙ ap (first (get_or l (y * m + s) 0)) (sym (e y k));
    other = λ i n. refl;
    long = refl;
  }

  -- the same values
  pub column_as : {f g : ℕ → ℕ} {l l' : List ℕ} → Column h m s f l l' → ((y : ℕ) → y < h → f y ≡ g y) → Column h m s g l l'
  column_as {l = l} c e = record { here = λ y k. c.here y k ∙ ap (first (get_or l (y * m + s) 0)) (e y k); other = c.other; long = c.long }

  -- values written one after the other
  column_then : {f g : ℕ → ℕ} {l l' l'' : List ℕ} → Column h m s f l l' → Column h m s g l' l'' → Column h m s (λ y. first (f y) (g y)) l l''
  column_then {f} {g} {l} c d = record {
    here = λ y k. d.here y k ∙ ap (λ (x : ℕ). first x (g y)) (c.here y k) ∙ first-assoc (get_or l (y * m + s) 0) (f y) (g y);
    other = λ i n. d.other i n ∙ c.other i n;
    long = d.long ∙ c.long;
  }

  -- one entry is written
  pub column_note : {y : ℕ} {l : List ℕ} (x : ℕ) → s < m → y < h → y * m + s < length l → Column h m s (λ z. cond (eqb y z) x 0) l (noted l (y * m + s) x)
  column_note {y} {l} x k q b = record {
    here = λ z j. go z (ℕ_discrete z y);
    other = λ i n. get_or-set_other l (y * m + s) i (first (get_or l (y * m + s) 0) x) 0 (n y q);
    long = length-set l (y * m + s) (first (get_or l (y * m + s) 0) x);
  }
    where
      go : (z : ℕ) → Dec (z ≡ y) → get_or (noted l (y * m + s) x) (z * m + s) 0 ≡ first (get_or l (z * m + s) 0) (cond (eqb y z) x 0)
      go z (yes e) =
          subst (λ z. get_or (noted l (y * m + s) x) (z * m + s) 0 ≡ first (get_or l (z * m + s) 0) (cond (eqb y z) x 0)) (sym e)
          (rw (eq-eqb y y refl) (get_or-set_same l (y * m + s) (first (get_or l (y * m + s) 0) x) 0 b))
      go z (no n) =
          rw (ne_eqb y z (λ e. n (sym e)))
          (get_or-set_other l (y * m + s) (z * m + s) (first (get_or l (y * m + s) 0) x) 0 (λ e. n (same_row m z s y k e)) ∙ sym (first-none (get_or l (z * m + s) 0)))

-- ---- a column written by a walk over a list, whose members have a value for each row

module _ {A : Type 0} (h m s : ℕ) (f : ℕ → A → ℕ) (l : List A) (d : A) where
  -- before the first member
  pub walk_none : (entries : List ℕ) → Column h m s (λ y. firsts (f y) (take 0 l)) entries entries
  unfolding firsts
  walk_none entries = column_none (λ y k. none l y)
    where
      none : (l : List A) (y : ℕ) → firsts (f y) (take 0 l) ≡ 0
      none [] y = refl
      none (x ∷ l) y = refl

  -- one member further
  pub walk_more : {k : ℕ} {before here after : List ℕ} → k < length l → Column h m s (λ y. firsts (f y) (take k l)) before here →
      Column h m s (λ y. f y (get_or l k d)) here after → Column h m s (λ y. firsts (f y) (take (k + 1) l)) before after
  walk_more {k} g c e = column_as (column_then c e) (λ y j. sym (firsts_more (f y) l k d g))

  -- after the last member
  pub walk_all : (k : ℕ) {before after : List ℕ} → k ≡ length l → (v : ℕ → ℕ) → ((y : ℕ) → firsts (f y) l ≡ v y) →
      Column h m s (λ y. firsts (f y) (take k l)) before after → Column h m s v before after
  walk_all k e v w c = column_as c (λ y j. ap (firsts (f y)) (ap (λ (n : ℕ). take n l) e ∙ take-length l) ∙ w y)

-- ---- columns one after the other

module _ {h m size : ℕ} {v : ℕ → ℕ → ℕ} where
  -- before the first column
  pub columns_none : (entries : List ℕ) → entries ≡ replicate size 0 → Columns h m size v 0 entries
  columns_none entries e = record { done = λ y u k g. absurd (omega arith); todo = λ i n. ap (λ (l : List ℕ). get_or l i 0) e ∙ zeros i (dec_lt i size); long = ap length e ∙ length-replicate size 0 }
    where
      zeros : (i : ℕ) → Dec (i < size) → get_or {A = ℕ} (replicate size 0) i 0 ≡ 0
      zeros i (yes k) = get_or-replicate {A = ℕ} size i 0 0 k
      zeros i (no k) = let n = length-replicate {A = ℕ} size 0 in get_or-eq_default (replicate size 0) 0 (omega arith)

  -- one column further
  pub columns_more : {s : ℕ} {before after : List ℕ} → s < m → Columns h m size v s before → Column h m s (λ y. v y s) before after → Columns h m size v (s + 1) after
  unfolding first
  columns_more {s} {before} {after} l c e = record { done = λ y u k g. go y u k g (ℕ_discrete u s); todo = rest; long = e.long ∙ c.long }
    where
      go : (y u : ℕ) → y < h → u < s + 1 → Dec (u ≡ s) → get_or after (y * m + u) 0 ≡ v y u
      go y u k g (yes q) = subst (λ u. get_or after (y * m + u) 0 ≡ v y u) (sym q) (e.here y k ∙ ap (λ (x : ℕ). first x (v y s)) (c.todo (y * m + s) (λ z w a b p. omega (arith, same_column m y s z w l (omega arith) p))))
      go y u k g (no q) = e.other (y * m + u) (λ z a p. q (same_column m y u z s (omega arith) l p)) ∙ c.done y u k (omega arith)

      rest : (i : ℕ) → ((y u : ℕ) → y < h → u < s + 1 → i ≡ y * m + u → ⊥) → get_or after i 0 ≡ 0
      rest i n = e.other i (λ y k. n y s k (omega arith)) ∙ c.todo i (λ y u k g. n y u k (omega arith))

  -- after the last column
  pub columns_all : {s h' m' size' : ℕ} {entries : List ℕ} → s ≡ m → h ≡ h' → m ≡ m' → size ≡ size' → Columns h m size v s entries → Grid h' m' size' v entries
  columns_all {s} {m' = m'} {size' = size'} {entries = entries} e p q w c = subst (λ h. Grid h m' size' v entries) p (subst (λ m. Grid h m size' v entries) q record {
    each = λ y u k g. c.done y u k (omega arith);
    rest = λ i l. c.todo i (λ y u k g q. omega (arith, in_rows {h = h} {m = m} {y = y} {s = u} k (omega arith)));
    long = c.long ∙ w;
  })

-- ---- a row

module _ {size : ℕ} {v : ℕ → ℕ} where
  -- before the first entry
  pub row_none : (entries : List ℕ) → entries ≡ replicate size 0 → Row 0 size v entries
  row_none entries e = let c = columns_none {h = 0} {m = 0} {size = size} {v = λ y s. 0} entries e in
      record { each = λ i l. absurd (omega arith); rest = λ i l. c.todo i (λ y u a b q. omega arith); long = c.long }

  -- one entry further
  pub row_more : {n x : ℕ} {entries : List ℕ} → n < size → x ≡ v n → Row n size v entries → Row (n + 1) size v (set entries n x)
  row_more {n} {x} {entries} l q r = record { each = λ i k. go i k (ℕ_discrete i n); rest = λ i k. get_or-set_other entries n i x 0 (omega arith) ∙ r.rest i (omega arith); long = length-set entries n x ∙ r.long }
    where
      go : (i : ℕ) → i < n + 1 → Dec (i ≡ n) → get_or (set entries n x) i 0 ≡ v i
      go i k (yes e) = let g = r.long in subst (λ i. get_or (set entries n x) i 0 ≡ v i) (sym e) (get_or-set_same entries n x 0 (omega arith) ∙ q)
      go i k (no e) = get_or-set_other entries n i x 0 e ∙ r.each i (omega arith)

  -- after the last entry
  pub row_all : {n m : ℕ} {entries : List ℕ} → n ≡ m → Row n size v entries → Row m size v entries
  row_all {entries = entries} e r = subst (λ k. Row k size v entries) e r
