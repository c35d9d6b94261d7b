-- What is known while the lines of a table are read: where the parts of the draft stand among the numbers so far.
use Prim.Native.Nat.{ℕ, zero, suc, ◌+◌, ◌≤◌, ◌<◌}
use native.Mathlib.Omega.{arith}
use native.Mathlib.Decide.{dec_lt}
use mathlib.Core.Path.{◌≡◌, refl, sym, ap, ◌∙◌, subst}
use mathlib.Core.List.{List, [], ◌∷◌, ◌++◌}
use lib.ListN.{length, get_or, take, drop, length-append, length-drop, get_or-append}
use lib.Seq.{length-take-le, get_or-take, get_or-drop, get_or-append_seam}
use Rattle.theory.specs.Grammar.{Rule}
use Rattle.theory.specs.Table.{Item, Go}
use Rattle.lines.specs.Basics.{impossible}
use Rattle.lines.specs.Ranges.{rule_line, item_line, go_line}
use Rattle.table.specs.Places.{LineAt, RuleAt, ItemAt, GoAt, no_item, item_place, after_item}
use Rattle.table.specs.Places.Step.{item_after}

-- ---- lines

-- a count and as many numbers after it
pub line_at : (ns : List ℕ) (p n : ℕ) → p + n < length ns → get_or ns p 0 ≡ n → LineAt ns p (take n (drop (suc p) ns))
line_at ns p n l e =
    let d = length-drop (suc p) ns in
    let k : length (take n (drop (suc p) ns)) ≡ n = length-take-le n (drop (suc p) ns) (omega arith) in
    record {
      inside = omega arith;
      counted = e ∙ sym k;
      numbers = λ j i.
          let s : suc p + j ≡ p + 1 + j = omega arith in
          sym (get_or-take n (drop (suc p) ns) j 0 (omega arith) ∙ (get_or-drop (suc p) ns j 0 ∙ ap (λ (x : ℕ). get_or ns x 0) s));
    }

module _ (ns : List ℕ) (p : ℕ) where
  -- the number of a line at a place that is said in another way
  number_at : {l : List ℕ} → LineAt ns p l → (j q : ℕ) → j < length l → p + 1 + j ≡ q → get_or ns q 0 ≡ get_or l j 0
  number_at h j q i e = ap (λ (x : ℕ). get_or ns x 0) (sym e) ∙ h.numbers j i

  -- a rule's line
  pub line_rule : (r : Rule) → LineAt ns p (rule_line r) → RuleAt ns p r
  line_rule r h = record {
    inside = let i = h.inside in omega arith;
    counted = let c = h.counted in omega arith;
    left_at = number_at h 0 (p + 1) (omega arith) (omega arith);
    right_at = λ j i. number_at h (suc j) (p + 2 + j) (omega arith) (omega arith);
  }

  -- an item's line
  pub line_item : (i : Item) → LineAt ns p (item_line i) → ItemAt ns p i
  line_item i h = record {
    inside = let i = h.inside in omega arith;
    counted = let c = h.counted in omega arith;
    at_rule = number_at h 0 (p + 1) (omega arith) (omega arith);
    dot_at = number_at h 1 (p + 2) (omega arith) (omega arith);
    at_ahead = λ j i. number_at h (suc (suc j)) (p + 3 + j) (omega arith) (omega arith);
  }

  -- a go line
  pub line_go : (l : Go) → LineAt ns p (go_line l) → GoAt ns p l
  line_go l h = record {
    inside = let i = h.inside in omega arith;
    counted = h.counted;
    on_at = number_at h 0 (p + 1) (omega arith) (omega arith);
    to_at = number_at h 1 (p + 2) (omega arith) (omega arith);
  }

-- ---- one more at the end of a list

-- as many and one more
pub length_more : {A : Type 0} (xs : List A) (x : A) → length (xs ++ (x ∷ [])) ≡ suc (length xs)
length_more xs x = length-append xs (x ∷ []) ∙ omega arith

-- what holds at every place of a list, and of one more
pub more_at : {A : Type 0} (P : ℕ → A → Type 0) (xs : List A) (x d : A) → ((k : ℕ) → k < length xs → P k (get_or xs k d)) → P (length xs) x →
    (k : ℕ) → k < length (xs ++ (x ∷ [])) → P k (get_or (xs ++ (x ∷ [])) k d)
more_at P xs x d h p k l = go (dec_lt k (length xs))
  where
    go : Dec (k < length xs) → P k (get_or (xs ++ (x ∷ [])) k d)
    go (yes i) = subst (P k) (sym (get_or-append xs (x ∷ []) d k i)) (h k i)
    go (no n) =
        let m = length_more xs x in
        let e : k ≡ length xs = omega arith in
        subst (λ j. P j (get_or (xs ++ (x ∷ [])) j d)) (sym e) (subst (P (length xs)) (sym (get_or-append_seam xs x [] d)) p)

-- the places of items do not change when one more comes
pub item_place-more : (p : ℕ) (is : List Item) (i : Item) (k : ℕ) → k ≤ length is → item_place p (is ++ (i ∷ [])) k ≡ item_place p is k
unfolding item_place
item_place-more p [] i zero l = refl
item_place-more p [] i (suc k) l = impossible (omega arith)
item_place-more p (x ∷ is) i zero l = refl
item_place-more p (x ∷ is) i (suc k) l = item_place-more (after_item p x) is i k (omega arith)

-- and the place after all is after the new one
pub item_place-last : (p : ℕ) (is : List Item) (i : Item) → item_place p (is ++ (i ∷ [])) (length (is ++ (i ∷ []))) ≡ after_item (item_place p is (length is)) i
item_place-last p is i =
    let m = length_more is i in
    ap (item_place p (is ++ (i ∷ []))) m ∙ (item_after p (is ++ (i ∷ [])) (length is) (omega arith) ∙
    (λ j. after_item (item_place-more p is i (length is) (omega arith) j) (get_or-append_seam is i [] no_item j)))
