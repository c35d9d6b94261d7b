-- The look-ahead sets noted while a state's items are read.
use Prim.Native.Nat.{ℕ, zero, suc, ◌+◌, ◌-◌, ◌/◌, ◌≤◌}
use native.Mathlib.Omega.{arith}
use native.Mathlib.Numerals.{add-one}
use mathlib.Core.Path.{◌≡◌, refl, sym, ap, subst, ◌∙◌}
use mathlib.Core.Bool.{Bool, true, ◌&&◌}
use mathlib.Core.List.{List, [], ◌∷◌}
use mathlib.Core.List.{Memᴰ as Mem}
use lib.ListN.{length, get_or, take, drop, set, length-set}
use lib.Seq.{drop-drop, get_or-set_same, get_or-set_other}
use lib.Dec.{leb}
use borrow.Author.Count.{below_more}
use borrow.Author.Tests.{leb-true}
use Rattle.theory.proofs.Basics.{both}
use Rattle.lines.specs.Lines.Fits.{at, ahead_fits, fits_item}
use Rattle.table.specs.Items.{item_in}
use Rattle.table.specs.Sets.{SetOf}
use Rattle.table.specs.States.{numbers_at, line_place, SetIn, SetsTo}

-- ---- lists

-- no front of nothing
take_none : {A : Type 0} (n : ℕ) → take {A = A} n [] ≡ []
take_none zero = refl
take_none (suc n) = refl

-- a front's rest is the rest's front
drop-take : (k n : ℕ) (l : List ℕ) → drop k (take n l) ≡ take (n - k) (drop k l)
drop-take zero n l = let e : n ≡ n - 0 = omega arith in ap (λ (m : ℕ). take m l) e
drop-take (suc k) zero l = let e : 0 ≡ 0 - suc k = omega arith in ap (λ (m : ℕ). take m (drop (suc k) l)) e
drop-take (suc k) (suc n) [] = sym (take_none (suc n - suc k))
drop-take (suc k) (suc n) (x ∷ l) = let e : n - k ≡ suc n - suc k = omega arith in drop-take k n l ∙ ap (λ (m : ℕ). take m (drop k l)) e

-- ---- one item

-- an item line has at least three numbers
pub item_long : (t : ℕ) (rs xs : List ℕ) → fits_item t rs xs ≡ true → 3 ≤ length xs
unfolding fits_item
item_long t rs xs f =
    let a : Bool = leb 3 (length xs) in
    let b : Bool = leb (at xs 0) (length rs) in
    let c : Bool = leb (at xs 1) (get_or rs (at xs 0) 1) in
    leb-true 3 (length xs) (both a b (both (a && b) c (both (a && b && c) (ahead_fits t (drop 2 xs)) f).0).0).0

-- the members of its look-ahead set are what its line has after the dot
ahead-is : (ns : List ℕ) (p : ℕ) → drop 2 (numbers_at ns p) ≡ (item_in ns p).ahead
unfolding item_in
ahead-is ns p =
    let z : suc p + 2 ≡ p + 3 = omega arith in
    drop-take 2 (get_or ns p 0) (drop (suc p) ns) ∙ ap (take (get_or ns p 0 - 2)) (drop-drop 2 (suc p) ns ∙ ap (λ (k : ℕ). drop k ns) z)

-- ---- one item after the other

-- none yet
pub sets_none : (ns : List ℕ) (t from : ℕ) (before : List ℕ) → SetsTo ns t from 0 from before before
sets_none ns t from before = record { long = refl; each = λ i l. absurd (omega arith); kept = λ q l. refl }

-- the place of the line after one at a place
pub place_next : (ns : List ℕ) (from k p n : ℕ) → p ≡ line_place ns from k → n ≡ get_or ns p 0 → p + (1 + n) ≡ line_place ns from (k + 1)
unfolding line_place
place_next ns from k p n e q =
    let z : p + (1 + n) ≡ p + 1 + n = omega arith in
    z ∙ (λ i. e i + 1 + (q ∙ ap (λ (x : ℕ). get_or ns x 0) e) i) ∙ ap (line_place ns from) (sym (add-one k))

module _ {ns : List ℕ} {t from k p : ℕ} {before after : List ℕ} (h : SetsTo ns t from k p before after) (here : p ≡ line_place ns from k) where
  -- one item more
  pub sets_more : {n v : ℕ} {next : List ℕ} → from ≤ p → (xs : List ℕ) → 3 ≤ n → xs ≡ numbers_at ns p →
      SetOf (λ a. Mem a (drop 2 xs)) (suc t) v → next ≡ set after (p / 4) v →
      SetsTo ns t from (k + 1) (p + (1 + n)) before next
  sets_more {n} {v} {next} past xs some q sets w = record {
    long = long ∙ h.long;
    each = below_more _ _ (λ i l. let (a, b) = h.each i l in (old i a b, omega arith))
        (subst (λ y. SetIn ns t next y × (y + 4 ≤ p + (1 + n))) here (new, omega arith));
    kept = λ y l. kept y (omega arith) ∙ h.kept y l;
  }
    where
      long : length next ≡ length after
      long = ap (λ (l : List ℕ). length l) w ∙ length-set after (p / 4) v

      kept : (y : ℕ) → y + 4 ≤ p → get_or next (y / 4) 0 ≡ get_or after (y / 4) 0
      kept y l = ap (λ (x : List ℕ). get_or x (y / 4) 0) w ∙ get_or-set_other after (p / 4) (y / 4) v 0 (λ e. omega arith)

      old : (i : ℕ) → SetIn ns t after (line_place ns from i) → line_place ns from i + 4 ≤ p → SetIn ns t next (line_place ns from i)
      old i a b r =
          let y = line_place ns from i in
          let e = long in
          subst (SetOf (λ x. Mem x (item_in ns y).ahead) (suc t)) (sym (kept y b)) (a (omega arith))

      new : SetIn ns t next p
      new r =
          let e = long in
          subst (SetOf (λ x. Mem x (item_in ns p).ahead) (suc t))
          (sym (ap (λ (x : List ℕ). get_or x (p / 4) 0) w ∙ get_or-set_same after (p / 4) v 0 (omega arith)))
          (subst (λ l. SetOf (λ x. Mem x l) (suc t) v) (ap (drop 2) q ∙ ahead-is ns p) sets)
