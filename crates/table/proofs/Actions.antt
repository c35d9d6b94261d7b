-- What a state does, read off as the first of what its items or go lines have.
use Prim.Native.Nat.{ℕ, suc, ◌+◌, ◌*◌, ◌≤◌, ◌<◌}
use native.Mathlib.Omega.{arith}
use mathlib.Core.Path.{◌≡◌, refl, sym, ap, subst, ◌∙◌}
use mathlib.Core.Bool.{Bool, true, false, cond, ◌&&◌}
use mathlib.Core.Option.{Option, none, some}
use mathlib.Core.List.{List, [], ◌∷◌}
use lib.Dec.{eqb}
use lib.ListN.{length}
use borrow.Author.Tests.{ne_eqb}
use Rattle.theory.specs.Grammar.{Grammar}
use Rattle.theory.specs.Table.{Item, Go, Table, state_at, rest, has, is_empty, reduce_in, reduce_on, go_in, goto, Complete}
use Rattle.lines.specs.Limits.{max_terms, max_nonterms, max_states}
use Rattle.table.specs.declared.Sizes.{Sizes}
use Rattle.table.specs.Items.{go_here, GoHere, StatesHeld}
use Rattle.table.specs.LookUps.{coded}
use Rattle.table.specs.LookUps.Columns.{first, noted, Column}
use Rattle.table.proofs.Columns.{firsts, column_as, column_none, column_note, in_rows, in_size}

-- the entry of one of two: the first if it is meant
coded-first : (b : Bool) (r : ℕ) (o : Option ℕ) → coded (cond b (some r) o) ≡ first (coded (cond b (some r) none)) (coded o)
unfolding coded first
coded-first true r o = refl
coded-first false r o = refl

-- what an item is worth on a token: one more than its rule, if it is complete and its set has the token
abbrev pub by_item : Grammar → ℕ → Item → ℕ
by_item g a i = coded (reduce_in g (i ∷ []) a)

-- the first of the items' is the state's
items_first : (g : Grammar) (is : List Item) (a : ℕ) → firsts (by_item g a) is ≡ coded (reduce_in g is a)
unfolding firsts reduce_in coded
items_first g [] a = refl
items_first g (i ∷ is) a =
    ap (first (by_item g a i)) (items_first g is a) ∙ sym (coded-first (is_empty (rest g i) && has i.ahead a) i.rule (reduce_in g is a))

-- as the table has it
pub state_items : (t : Table) (s a : ℕ) → firsts (by_item t.grammar a) (state_at t s).items ≡ coded (reduce_on t s a)
unfolding reduce_on
state_items t s a = items_first t.grammar (state_at t s).items a

-- what a number b is worth on a token or symbol a: one more than x, if they are the same
abbrev pub by_token : ℕ → ℕ → ℕ → ℕ
by_token x a b = cond (eqb b a) (suc x) 0

-- the first of the members' is the set's
pub tokens_first : (x : ℕ) (l : List ℕ) (a : ℕ) → firsts (by_token x a) l ≡ cond (has l a) (suc x) 0
unfolding firsts has first
tokens_first x [] a = refl
tokens_first x (b ∷ l) a = by (eqb b a) (tokens_first x l a)
  where
    by : (c : Bool) → firsts (by_token x a) l ≡ cond (has l a) (suc x) 0 → first (cond c (suc x) 0) (firsts (by_token x a) l) ≡ cond (cond c true (has l a)) (suc x) 0
    by true e = refl
    by false e = e

-- what a go line is worth on a symbol: one more than its target, if it is on the symbol
abbrev pub by_go : ℕ → Go → ℕ
by_go y l = by_token l.to y l.on

-- the first of the go lines' is the state's
gos_first : (gs : List Go) (y : ℕ) → firsts (by_go y) gs ≡ coded (go_in gs y)
unfolding firsts go_in coded first
gos_first [] y = refl
gos_first (l ∷ gs) y = ap (first (by_go y l)) (gos_first gs y) ∙ by (eqb l.on y)
  where
    by : (b : Bool) → first (cond b (suc l.to) 0) (coded (go_in gs y)) ≡ coded (cond b (some l.to) (go_in gs y))
    by true = refl
    by false = refl

-- as the table has it
pub state_gos : (t : Table) (s y : ℕ) → firsts (by_go y) (state_at t s).gos ≡ coded (goto t s y)
unfolding goto
state_gos t s y = gos_first (state_at t s).gos y

-- a complete item is worth one more than its rule where its set has the token
pub complete_item : (g : Grammar) (i : Item) (a : ℕ) → Complete g i → cond (has i.ahead a) (suc i.rule) 0 ≡ by_item g a i
unfolding reduce_in coded is_empty
complete_item g i a c = rw c (by (has i.ahead a))
  where
    by : (b : Bool) → cond b (suc i.rule) 0 ≡ coded (cond b (some i.rule) none)
    by true = refl
    by false = refl

-- an item that is not complete is worth nothing
pub other_item : (g : Grammar) (i : Item) (a : ℕ) → (Complete g i → ⊥) → by_item g a i ≡ 0
unfolding reduce_in coded is_empty
other_item g i a n = by (rest g i) n
  where
    by : (l : List ℕ) → (l ≡ [] → ⊥) → coded (cond (is_empty l && has i.ahead a) (some i.rule) none) ≡ 0
    by [] n = absurd (n refl)
    by (x ∷ l) n = refl

-- ---- one entry for each

-- the entry of a number is written
pub note_one : {h m s y b v x : ℕ} {before after : List ℕ} → y ≡ b → v ≡ x → s < m → y < h → y * m + s < length before →
    after ≡ noted before (y * m + s) (suc v) → Column h m s (λ z. by_token x z b) before after
note_one {h} {m} {s} {y} {b} {v} {x} {before} e q k l g w =
    subst (λ l. Column h m s (λ z. by_token x z b) before l) (sym w)
    (column_as (column_note (suc v) k l g) (λ z j. ap (λ (n : ℕ). cond (eqb n z) (suc v) 0) e ∙ ap (λ (n : ℕ). cond (eqb b z) (suc n) 0) q))

-- a number past the rows has no entry
pub skip_one : {h m s y b : ℕ} (x : ℕ) {l : List ℕ} → y ≡ b → h ≤ y → Column h m s (λ z. by_token x z b) l l
skip_one {b = b} x e k = column_none (λ z j. ap (λ t. cond t (suc x) 0) (ne_eqb b z (λ q. omega arith)))

-- ---- a go line's entry

module _ {ns places : List ℕ} {z : Sizes} (H : StatesHeld ns places z) {s at : ℕ} {l : Go} (k : s < z.states) (h : GoHere ns at l) where
  -- its symbol has a row
  on_row : {y : ℕ} → y ≡ (go_here ns at).on → y < suc (z.terms + z.nonterms)
  on_row e = let q = ap (λ (g : Go). g.on) h.same in let w = h.within.on_in.0 in let t = H.terms_are in let n = H.nonterms_are in omega arith

  -- its entry has a place
  pub on_place : {y : ℕ} → y ≡ (go_here ns at).on → y * z.states + s < suc (z.terms + z.nonterms) * z.states
  on_place e = in_rows {h = suc (z.terms + z.nonterms)} {m = z.states} (on_row e) k

  -- whose number is small
  pub place_small : {y : ℕ} → y ≡ (go_here ns at).on → y * z.states + s < (max_terms + max_nonterms + 1) * max_states
  place_small e =
      let t = H.terms_are in let n = H.nonterms_are in let c = H.states_are in
      let a = H.in_range.term_count.1 in let b = H.in_range.nonterm_count.1 in let d = H.in_range.state_count.1 in
      in_size {h = suc (z.terms + z.nonterms)} {m = z.states} (max_terms + max_nonterms + 1) max_states (on_row e) k (omega arith) (omega arith)

  -- its target is small
  pub to_small : {v : ℕ} → v ≡ (go_here ns at).to → v ≤ max_states
  to_small e = let q = ap (λ (g : Go). g.to) h.same in let w = h.within.to_in in let d = H.in_range.state_count.1 in omega arith

  -- it is written
  pub note_go : {y v : ℕ} {before after : List ℕ} → y ≡ (go_here ns at).on → v ≡ (go_here ns at).to → suc (z.terms + z.nonterms) * z.states ≤ length before →
      after ≡ noted before (y * z.states + s) (suc v) → Column (suc (z.terms + z.nonterms)) z.states s (λ y. by_go y l) before after
  note_go e f n w =
      let p = on_place e in
      note_one (e ∙ ap (λ (g : Go). g.on) h.same) (f ∙ ap (λ (g : Go). g.to) h.same) k (on_row e) (omega arith) w
