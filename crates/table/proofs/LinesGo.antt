-- Lines read one after the other, whatever was read before: how the reading of a state's items and go lines begins, goes on, stops and ends.
use Prim.Native.Nat.{ℕ, suc, ◌+◌, ◌-◌, ◌≤◌, ◌<◌}
use native.Mathlib.Omega.{arith}
use mathlib.Core.Path.{◌≡◌, refl, ap, ◌∙◌, subst}
use mathlib.Core.Bool.{Bool, true, false, false≢true}
use mathlib.Core.List.{List, [], ◌∷◌}
use lib.ListN.{length, take}
use lib.Dec.{leb}
use Rattle.lines.specs.Limits.{max_numbers}
use Rattle.lines.specs.Lines.{is_end}
use Rattle.lines.specs.Lines.Fits.{at, fits_item, fits_go}
use Rattle.lines.specs.Shape.{fits_shape, next_shape, lengths_with}
use Rattle.lines.specs.Shape.Shaped.{due_of}
use Rattle.lines.specs.declared.shape.Shape.{Shape}
use Rattle.table.specs.declared.Sizes.{Sizes}
use Rattle.table.specs.declared.Unread.{Unread}
use Rattle.table.specs.Lined.{rules_with, states_with}
use Rattle.table.specs.Walk.{Walked}
use Rattle.table.specs.States.{numbers_at, Whole, in_state, Goes, Stops}
use Rattle.table.proofs.LineLaws.{line-broken, line-unfit, line-fits}
use Rattle.table.proofs.StateShapes.{item_fits, item_lengths, item_next, item_rules, item_states, go_fits, go_lengths, go_next, go_rules, go_states}
use Rattle.table.proofs.Walked.{walk_is}

-- lines from one place to another, so many, make the one shape the other
pub record To (ns ls : List ℕ) (from : ℕ) (s s' : Shape) (p done : ℕ) : Type 0 where
  pub then : {line : ℕ} {ra sa : List ℕ} → Walked ns from line s ls ra sa → Walked ns p (line + done) s' ls ra sa

-- a line leaves the lengths of the rules and all places
pub record Leaves (s : Shape) (ls xs : List ℕ) : Type 0 where
  pub lengths : lengths_with s ls xs ≡ ls
  pub rules : (places : List ℕ) (p : ℕ) → rules_with s places p ≡ places
  pub states : (places : List ℕ) (p : ℕ) → states_with s places p ≡ places

-- no line at all
pub to_start : (ns ls : List ℕ) (from : ℕ) (s s' : Shape) → s ≡ s' → To ns ls from s s' from 0
to_start ns ls from s s' e = record { then = go }
  where
    go : {line : ℕ} {ra sa : List ℕ} → Walked ns from line s ls ra sa → Walked ns from (line + 0) s' ls ra sa
    go {line} {ra} {sa} h =
        let z : line ≡ line + 0 = omega arith in
        subst (λ n. Walked ns from n s' ls ra sa) z (subst (λ x. Walked ns from line x ls ra sa) e h)

module _ {ns ls : List ℕ} {from : ℕ} {s s' : Shape} {p done : ℕ} (h : To ns ls from s s' p done) where
  -- one line more
  pub to_more : Whole ns p → (xs : List ℕ) → xs ≡ numbers_at ns p → fits_shape s' ls xs ≡ true → Leaves s' ls xs → (s'' : Shape) →
      next_shape s' xs ≡ s'' → To ns ls from s s'' (p + (1 + length xs)) (done + 1)
  to_more k xs q f v s'' e = record { then = go }
    where
      go : {line : ℕ} {ra sa : List ℕ} → Walked ns from line s ls ra sa → Walked ns (p + (1 + length xs)) (line + (done + 1)) s'' ls ra sa
      go {line} {ra} {sa} w =
          let z : line + done + 1 ≡ line + (done + 1) = omega arith in
          subst (λ m. Walked ns (p + (1 + length xs)) m s'' ls ra sa) z
          (walk_is (line-fits (h.then w) k xs q f) refl e v.lengths (v.rules ra p) (v.states sa p))

  module _ (few : length ns ≤ max_numbers) {line : ℕ} where
    -- no whole line stands where one is due
    pub to_none : (Whole ns p → ⊥) → is_end (due_of s'.due) ≡ false → Stops ns ls s (record { at = from; line = line }) (Unread.Unfit (line + done))
    to_none k e = record { stop = λ w. line-broken (h.then w) few k e }

    -- the line does not fit
    pub to_unfit : Whole ns p → (xs : List ℕ) → xs ≡ numbers_at ns p → fits_shape s' ls xs ≡ false →
        Stops ns ls s (record { at = from; line = line }) (Unread.Unfit (line + done))
    to_unfit k xs q f = record { stop = λ w. line-unfit (h.then w) few k xs q f }

  -- all lines fit
  pub to_all : (line : ℕ) → Goes ns ls s s' (record { at = from; line = line }) (record { at = p; line = line + done })
  to_all line = record { on = λ w. h.then w }

-- one is left, and others
left_some : (count done : ℕ) → done < count → count - done ≡ suc (count - (done + 1))
left_some count done l = omega arith

-- ---- items

-- so many of a state's items were read
pub record ItemsTo (ns ls : List ℕ) (z : Sizes) (from count p done : ℕ) : Type 0 where
  pub to : (j g : ℕ) → To ns ls from (in_state z j count g 0) (in_state z j (count - done) g 0) p done

-- none yet
pub items_start : (ns ls : List ℕ) (z : Sizes) (from count : ℕ) → ItemsTo ns ls z from count from 0
items_start ns ls z from count =
    let e : count ≡ count - 0 = omega arith in
    record { to = λ j g. to_start ns ls from _ _ (ap (λ (i : ℕ). in_state z j i g 0) e) }

-- an item is due: its test, and that it ends nothing
item_open : (z : Sizes) (j i l a : ℕ) → is_end (due_of (in_state z j (suc i) l a).due) ≡ false
unfolding is_end in_state
item_open z j i l a = refl

module _ {ns ls : List ℕ} {z : Sizes} {from count p done : ℕ} (h : ItemsTo ns ls z from count p done) (l : done < count) where
  -- the shape where an item is due
  due : (j g : ℕ) → To ns ls from (in_state z j count g 0) (in_state z j (suc (count - (done + 1))) g 0) p done
  due j g = subst (λ i. To ns ls from (in_state z j count g 0) (in_state z j i g 0) p done) (left_some count done l) (h.to j g)

  -- one item more
  pub items_more : Whole ns p → (xs : List ℕ) → xs ≡ numbers_at ns p → fits_item z.terms (take z.rules ls) xs ≡ true →
      ItemsTo ns ls z from count (p + (1 + length xs)) (done + 1)
  items_more k xs q f =
      let i = count - (done + 1) in
      record {
        to = λ j g. to_more (due j g) k xs q (item_fits z j i g 0 ls xs ∙ f)
            (record { lengths = item_lengths z j i g 0 ls xs; rules = item_rules z j i g 0; states = item_states z j i g 0 }) _ (item_next z j i g 0 xs);
      }

  module _ (few : length ns ≤ max_numbers) {line : ℕ} where
    -- no whole line stands there
    pub items_none : (Whole ns p → ⊥) → (j g : ℕ) → Stops ns ls (in_state z j count g 0) (record { at = from; line = line }) (Unread.Unfit (line + done))
    items_none k j g = to_none (due j g) few k (item_open z j (count - (done + 1)) g 0)

    -- the line does not fit
    pub items_unfit : Whole ns p → (xs : List ℕ) → xs ≡ numbers_at ns p → fits_item z.terms (take z.rules ls) xs ≡ false → (j g : ℕ) →
        Stops ns ls (in_state z j count g 0) (record { at = from; line = line }) (Unread.Unfit (line + done))
    items_unfit k xs q f j g = to_unfit (due j g) few k xs q (item_fits z j (count - (done + 1)) g 0 ls xs ∙ f)

-- all of them
pub items_all : {ns ls : List ℕ} {z : Sizes} {from count p done : ℕ} → ItemsTo ns ls z from count p done → done ≡ count → (line j g : ℕ) →
    Goes ns ls (in_state z j count g 0) (in_state z j 0 g 0) (record { at = from; line = line }) (record { at = p; line = line + count })
items_all {ns} {ls} {z} {from} {count} {p} {done} h e line j g =
    let q : count - done ≡ 0 = omega arith in
    subst (λ i. Goes ns ls (in_state z j count g 0) (in_state z j i g 0) (record { at = from; line = line }) (record { at = p; line = line + count })) q
    (subst (λ k. Goes ns ls (in_state z j count g 0) (in_state z j (count - done) g 0) (record { at = from; line = line }) (record { at = p; line = line + k })) e
    (to_all (h.to j g) line))

-- ---- go lines

-- so many of a state's go lines were read, and the X of the next is at least a
pub record GosTo (ns ls : List ℕ) (z : Sizes) (from count p done a : ℕ) : Type 0 where
  pub to : (j : ℕ) → To ns ls from (in_state z j 0 count 0) (in_state z j 0 (count - done) a) p done

-- a go line that fits has a number
pub go_some : (h n m : ℕ) (above : ℕ → Bool) (xs : List ℕ) → fits_go h n m above xs ≡ true → 1 ≤ length xs
unfolding fits_go
go_some h n m above [] f = absurd (false≢true f)
go_some h n m above (x ∷ xs) f = omega arith

-- none yet
pub gos_start : (ns ls : List ℕ) (z : Sizes) (from count : ℕ) → GosTo ns ls z from count from 0 0
gos_start ns ls z from count =
    let e : count ≡ count - 0 = omega arith in record { to = λ j. to_start ns ls from _ _ (ap (λ (i : ℕ). in_state z j 0 i 0) e) }

-- a go line is due: that ends nothing
go_open : (z : Sizes) (j l a : ℕ) → is_end (due_of (in_state z j 0 (suc l) a).due) ≡ false
unfolding is_end in_state
go_open z j l a = refl

-- a state without lines left is finished, whatever its go lines were
finished : (z : Sizes) (j a : ℕ) → in_state z j 0 0 a ≡ in_state z j 0 0 0
unfolding in_state
finished z j a = refl

module _ {ns ls : List ℕ} {z : Sizes} {from count p done a : ℕ} (h : GosTo ns ls z from count p done a) (l : done < count) where
  -- the shape where a go line is due
  go_due : (j : ℕ) → To ns ls from (in_state z j 0 count 0) (in_state z j 0 (suc (count - (done + 1))) a) p done
  go_due j = subst (λ i. To ns ls from (in_state z j 0 count 0) (in_state z j 0 i a) p done) (left_some count done l) (h.to j)

  -- one go line more
  pub gos_more : Whole ns p → (xs : List ℕ) → xs ≡ numbers_at ns p →
      fits_go z.terms z.nonterms z.states (leb a) xs ≡ true → (b : ℕ) → suc (at xs 0) ≡ b → GosTo ns ls z from count (p + (1 + length xs)) (done + 1) b
  gos_more k xs q f b e =
      let i = count - (done + 1) in
      record {
        to = λ j. to_more (go_due j) k xs q (go_fits z j 0 i a ls xs ∙ f)
            (record { lengths = go_lengths z j 0 i a ls xs; rules = go_rules z j 0 i a; states = go_states z j 0 i a }) _
            (go_next z j i a xs ∙ ap (in_state z j 0 i) e);
      }

  module _ (few : length ns ≤ max_numbers) {line : ℕ} where
    -- no whole line stands there
    pub gos_none : (Whole ns p → ⊥) → (j : ℕ) → Stops ns ls (in_state z j 0 count 0) (record { at = from; line = line }) (Unread.Unfit (line + done))
    gos_none k j = to_none (go_due j) few k (go_open z j (count - (done + 1)) a)

    -- the line does not fit
    pub gos_unfit : Whole ns p → (xs : List ℕ) → xs ≡ numbers_at ns p → fits_go z.terms z.nonterms z.states (leb a) xs ≡ false → (j : ℕ) →
        Stops ns ls (in_state z j 0 count 0) (record { at = from; line = line }) (Unread.Unfit (line + done))
    gos_unfit k xs q f j = to_unfit (go_due j) few k xs q (go_fits z j 0 (count - (done + 1)) a ls xs ∙ f)

-- all of them
pub gos_all : {ns ls : List ℕ} {z : Sizes} {from count p done a : ℕ} → GosTo ns ls z from count p done a → done ≡ count → (line j : ℕ) →
    Goes ns ls (in_state z j 0 count 0) (in_state z j 0 0 0) (record { at = from; line = line }) (record { at = p; line = line + count })
gos_all {ns} {ls} {z} {from} {count} {p} {done} {a} h e line j =
    let q : count - done ≡ 0 = omega arith in
    subst (λ s. Goes ns ls (in_state z j 0 count 0) s (record { at = from; line = line }) (record { at = p; line = line + count }))
    (ap (λ (i : ℕ). in_state z j 0 i a) q ∙ finished z j a)
    (subst (λ k. Goes ns ls (in_state z j 0 count 0) (in_state z j 0 (count - done) a) (record { at = from; line = line }) (record { at = p; line = line + k })) e
    (to_all (h.to j) line))
