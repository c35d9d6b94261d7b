-- The look-ups of a table, row by row: a part of the rows is the row of its symbol or token.
use mathlib.Core.Path.{◌≡◌, ◌∙◌, refl, sym, subst, subst⁻¹}
use mathlib.Core.Bool.{Bool, true, false, cond}
use mathlib.Core.Option.{Option, none, some, some-injective, none-ne-some}
use mathlib.Core.List.{List}
use mathlib.Core.List.Memᴰ
use mathlib.Core.List.{Memᴰ as Mem}
use Prim.Native.Nat.{ℕ, suc, ◌+◌, ◌*◌, ◌-◌, ◌≤◌, ◌<◌}
use native.Mathlib.Omega.{arith}
use native.Mathlib.Nat.{mul-le-mul_right}
use native.Mathlib.Decide.{dec_lt, ℕ_discrete}
use borrow.Author.Tests.{eqb-false}
use lib.Dec.{eqb}
use lib.ListN.{length, get_or, drop, length-drop, get_or-eq_default}
use lib.Seq.{get_or-take, get_or-drop, length-take-le}
use Rattle.theory.specs.Table.{Table, Item, InState, count, goto, reduce_on}
use Rattle.theory.specs.Table.Facts.{Facts}
use Rattle.theory.proofs.Table.Facts.{item_state}
use Rattle.theory.proofs.Table.Actions.{reduce_on-item}
use Rattle.forest.specs.Rows.{row_of, meant, Row, Acts, GoRows, ActRows}

-- ---- what an entry means

-- an entry of the part is one of the rows
meant-row : (rows : List ℕ) (m k s : ℕ) → s < m → meant (row_of rows m k) s ≡ meant rows (k * m + s)
unfolding meant
meant-row rows m k s h =
    let e : get_or (row_of rows m k) s 0 ≡ get_or rows (k * m + s) 0 = get_or-take (k * m + m - k * m) (drop (k * m) rows) s 0 (omega arith)
    ∙ get_or-drop (k * m) rows s 0 in
    rw e

-- past the end there is none
meant-out : (row : List ℕ) (s : ℕ) → length row ≤ s → meant row s ≡ none
unfolding meant
meant-out row s h = rw (get_or-eq_default row 0 h)

-- an entry that means something is above 0, and means one less
pub meant_is : (row : List ℕ) (s u : ℕ) → meant row s ≡ some u → (get_or row s 0 ≡ suc u)
unfolding meant
meant_is row s u e = go (eqb (get_or row s 0) 0) refl e
  where
    go : (b : Bool) → eqb (get_or row s 0) 0 ≡ b → cond b none (some (get_or row s 0 - 1)) ≡ some u → get_or row s 0 ≡ suc u
    go true p q = absurd (none-ne-some u q)
    go false p q = let z = some-injective (get_or row s 0 - 1) u q in let n = eqb-false (get_or row s 0) 0 p in omega arith

-- ---- rows of a table

module _ (t : Table) (P : Facts t) where
  -- a number that is no state has no go target
  goto-out : (s y : ℕ) → count t ≤ s → goto t s y ≡ none
  goto-out s y h = go (goto t s y) refl
    where
      go : (o : Option ℕ) → goto t s y ≡ o → o ≡ none
      go none e = refl
      go (some u) e = let l = P.go_from s y u e in absurd (omega arith)

  -- and reduces on nothing
  reduce_out : (s a : ℕ) → count t ≤ s → reduce_on t s a ≡ none
  reduce_out s a h = go (reduce_on t s a) refl
    where
      go : (o : Option ℕ) → reduce_on t s a ≡ o → o ≡ none
      go none e = refl
      go (some r) e = let (i, m, c, k, q) = reduce_on-item t s a r e in let l = item_state t s i m in absurd (omega arith)

  -- a state reduces on a token by a listed rule
  pub rule_in : (s a r : ℕ) → a < t.grammar.terms → reduce_on t s a ≡ some r → r < length t.grammar.rules
  rule_in s a r h e =
      let (i, m, c, k, q) = reduce_on-item t s a r e in
      go i m k q (ℕ_discrete i.rule (length t.grammar.rules))
    where
      go : (i : Item) → InState t s i → Mem a i.ahead → i.rule ≡ r → Dec (i.rule ≡ length t.grammar.rules) → r < length t.grammar.rules
      go i m k q (yes z) =
          let e = Memᴰ.eq_of_singleton (subst (λ (l : List ℕ). Mem a l) (P.accept_ahead s i m z) k) in
          absurd (omega arith)
      go i m k q (no n) = omega (arith, P.item_rule s i m)

  -- the part has an entry for each state
  pub row_length : (rows : List ℕ) (m k n : ℕ) → k < n → n * m ≤ length rows → length (row_of rows m k) ≡ m
  row_length rows m k n h l =
      let e : k * m + m ≤ n * m = omega (arith, mul-le-mul_right m h) in
      length-take-le (k * m + m - k * m) (drop (k * m) rows) (omega (arith, length-drop (k * m) rows)) ∙ omega arith

  -- the row of a symbol, at the number of states
  go_row_at : (go : List ℕ) → GoRows t go → (y : ℕ) → y ≤ t.grammar.terms + t.grammar.nonterms → Row (row_of go (count t) y) (count t) t y
  go_row_at go G y h =
      let l = row_length go (count t) y (suc (t.grammar.terms + t.grammar.nonterms)) (omega arith) G.all in
      record {
        same = λ s. by s l (dec_lt s (count t));
        low = λ s u e. P.go_to s y u e;
        long = omega arith;
      }
    where
      by : (s : ℕ) → length (row_of go (count t) y) ≡ count t → Dec (s < count t) → goto t s y ≡ meant (row_of go (count t) y) s
      by s l (yes k) = sym (meant-row go (count t) y s k ∙ G.each y s h k)
      by s l (no n) = goto-out s y (omega arith) ∙ sym (meant-out (row_of go (count t) y) s (omega arith))

  -- the row of a token, at the number of states
  act_row_at : (acts : List ℕ) → ActRows t acts → (a : ℕ) → a < t.grammar.terms → Acts (row_of acts (count t) a) (count t) t a
  act_row_at acts G a h =
      let l = row_length acts (count t) a t.grammar.terms h G.all in
      record { same = λ s. by s l (dec_lt s (count t)); long = omega arith }
    where
      by : (s : ℕ) → length (row_of acts (count t) a) ≡ count t → Dec (s < count t) → reduce_on t s a ≡ meant (row_of acts (count t) a) s
      by s l (yes k) = sym (meant-row acts (count t) a s k ∙ G.each a s h k)
      by s l (no n) = reduce_out s a (omega arith) ∙ sym (meant-out (row_of acts (count t) a) s (omega arith))

  -- a part of the go targets is its symbol's row
  pub go_row : (go : List ℕ) → GoRows t go → (m y : ℕ) → m ≡ count t → y ≤ t.grammar.terms + t.grammar.nonterms → Row (row_of go m y) (count t) t y
  go_row go G m y e h = subst⁻¹ (λ (k : ℕ). Row (row_of go k y) (count t) t y) e (go_row_at go G y h)

  -- a part of the rules is its token's row
  pub act_row : (acts : List ℕ) → ActRows t acts → (m a : ℕ) → m ≡ count t → a < t.grammar.terms → Acts (row_of acts m a) (count t) t a
  act_row acts G m a e h = subst⁻¹ (λ (k : ℕ). Acts (row_of acts k a) (count t) t a) e (act_row_at acts G a h)

-- a row lies within the rows
pub row_end : (m k n l : ℕ) → k < n → n * m ≤ l → k * m + m ≤ l
row_end m k n l h g = omega (arith, mul-le-mul_right m h)
