-- Validity: every item of a whole stack's top state is valid for the string that the stack spells: the start symbol derives that string, with
-- what stands after the item's dot and more tokens behind it. By induction on the stack; within a state from its first item to its last,
-- for an item with its dot in front has its left side after the dot of an earlier one.
use Rattle.std.specs.Prelude.{ℕ, zero, suc, ◌≤◌, ◌<◌, ◌≡◌, refl, length, take, drop}
use Rattle.std.proofs.Common.{suc-le-suc, zero-le, arith, not-suc-le-zero, le_refl, sym, ap, ◌∙◌, subst, inl, inr, ⊎_elim}
use Rattle.std.proofs.Math.Option.{some}
use mathlib.Core.List.{List, [], ◌∷◌, ◌++◌, append_assoc, append-nil}
use mathlib.Core.List.Memᴰ
use mathlib.Core.List.Memᴰ.{head as Mem·head}
use mathlib.Core.List.{Memᴰ as Mem}
use Rattle.std.proofs.Math.ListN.{get_or-eq_default}
use Rattle.theory.proofs.Basics.{get_d_cases, take_next, cut_at, drop-mem}
use Rattle.theory.specs.Grammar.{start, Derives, same, more, replace, end}
use Rattle.theory.proofs.Grammar.Derive.{derives_trans}
use Rattle.theory.specs.Grammar.Fruitful.{Fruitful}
use Rattle.theory.proofs.Grammar.Fruitful.{fruitful_join, fruitful_split, start-fruitful, rule_fruitful}
use Rattle.theory.specs.Table.{Table, Item, goto, rule_at, accept_rule, rest, After, InState, state_at, count}
use Rattle.theory.specs.Table.Facts.{Facts}
use Rattle.theory.proofs.Table.Access.{no_end_right}
use Rattle.theory.specs.Machine.{Stack, bottom, push}
use Rattle.theory.specs.Machine.Valid.{spelled, right_of, Source, Valid}

-- ---- whole stacks and their strings

-- the start symbol derives a rule's right side between the same two strings
source_right : (t : Table) (i : Item) (before after : List ℕ) → Source t i before after →
    Derives t.grammar (start t.grammar ∷ []) (before ++ (right_of t i ++ after))
source_right t i before after (inl (m, d)) = derives_trans d (more (replace before after _ m) same)
source_right t i before after (inr (e, b, a)) = rw (b, a) (subst (λ r. Derives t.grammar (start t.grammar ∷ []) (r.right ++ [])) (sym e) same)

-- the start symbol derives the string with what stands after the dot
pub valid_derives : {t : Table} {γ : List ℕ} {i : Item} (val : Valid t γ i) →
    Derives t.grammar (start t.grammar ∷ []) (γ ++ (rest t.grammar i ++ val.after))
valid_derives {t} {γ} {i} val = subst (λ (l : List ℕ). Derives t.grammar (start t.grammar ∷ []) l) whole
    (source_right t i val.before val.after val.source)
  where
    whole : val.before ++ (right_of t i ++ val.after) ≡ γ ++ (rest t.grammar i ++ val.after)
    whole =
        ap (λ (l : List ℕ). val.before ++ (l ++ val.after)) (cut_at i.dot (right_of t i) refl)
        ∙ ap (λ (l : List ℕ). val.before ++ l) (append_assoc (take i.dot (right_of t i)) (rest t.grammar i) val.after)
        ∙ sym (append_assoc val.before (take i.dot (right_of t i)) (rest t.grammar i ++ val.after))
        ∙ ap (λ (l : List ℕ). l ++ (rest t.grammar i ++ val.after)) (sym val.reads)

module _ {t : Table} (P : Facts t) where
  -- the right side of each rule yields tokens, the accept rule's too
  right-fruitful : (r : ℕ) → Fruitful t.grammar (rule_at t.grammar r).right
  right-fruitful r =
      ⊎_elim (λ m. rule_fruitful P.formed P.reduced (rule_at t.grammar r) m)
      (λ e. subst (λ q. Fruitful t.grammar q.right) (sym e.1) (start-fruitful P.formed P.reduced))
      (get_d_cases t.grammar.rules r (accept_rule t.grammar))

  -- and so do both its parts at a dot
  pub right-parts : (r d : ℕ) {l : List ℕ} → drop d (rule_at t.grammar r).right ≡ l →
      Fruitful t.grammar (take d (rule_at t.grammar r).right) × Fruitful t.grammar l
  right-parts r d {l} e =
      let right = (rule_at t.grammar r).right in
      fruitful_split (take d right) l (subst (λ (k : List ℕ). Fruitful t.grammar k) (cut_at d right e) (right-fruitful r))

  -- each symbol of a go line yields tokens
  goto-fruitful : (s x u : ℕ) → goto t s x ≡ some u → Fruitful t.grammar (x ∷ [])
  goto-fruitful s x u e =
      let (i, m, a) = P.go_has s u x e in
      (fruitful_split (x ∷ []) a.0 (right-parts i.rule i.dot a.1).1).0

  -- the target of a go line has an item whose dot was moved over its symbol
  pub goto-item : (s x u : ℕ) → goto t s x ≡ some u → (i : Item) × InState t u i × (suc 0 ≤ i.dot)
  goto-item s x u e =
      let (i, m, a) = P.go_has s u x e in
      let (j, n, r, d, k) = P.go_on s u x i e m a in
      (j, n, rw d (suc-le-suc zero-le))

  -- no go line leads to state 0
  goto-first : (s x : ℕ) → goto t s x ≡ some 0 → ⊥
  goto-first s x e =
      let (i, m, n) = goto-item s x 0 e in
      let z = P.first_dots i m in omega arith

  -- each state is the top of a whole stack
  below-bound : (n u : ℕ) → u < n → u < count t → (below : List ℕ) × Stack t (u ∷ below)
  below-bound zero u h k = absurd (not-suc-le-zero h)
  below-bound (suc n) zero h k = ([], bottom)
  below-bound (suc n) (suc u) h k =
      let (s, x, l, e) = P.led_to (suc u) k (λ z. omega arith) in
      let (b, st) = below-bound n s (omega arith) (omega arith) in
      (s ∷ b, push x e st)

  pub reached : (u : ℕ) → u < count t → (below : List ℕ) × Stack t (u ∷ below)
  reached u h = below-bound (suc u) u (le_refl (suc u)) h

  -- the string of a whole stack yields tokens
  pub spelled-fruitful : {p : List ℕ} (st : Stack t p) → Fruitful t.grammar (spelled st)
  unfolding spelled
  spelled-fruitful bottom = ([], end)
  spelled-fruitful (push {s} {u} x e st) = fruitful_join (spelled-fruitful st) (goto-fruitful s x u e)

  -- ---- each item of the top state is valid

  -- an item that was moved over x
  moved_valid : (γ : List ℕ) (i j : Item) (x : ℕ) (r : List ℕ) → rest t.grammar i ≡ x ∷ r → j.rule ≡ i.rule → j.dot ≡ suc i.dot →
      Valid t γ i → Valid t (γ ++ (x ∷ [])) j
  moved_valid γ i j x r b c d val = record {
    before = val.before;
    after = val.after;
    reads = rw (d, c, take_next i.dot (right_of t i) b) (ap (λ (l : List ℕ). l ++ (x ∷ [])) val.reads ∙ append_assoc val.before _ (x ∷ []));
    source = rw c val.source;
    fruit = val.fruit;
  }

  valid_moved : (s x u : ℕ) (γ : List ℕ) → goto t s x ≡ some u → ((i : Item) → InState t s i → Valid t γ i) →
      (j : Item) → InState t u j → suc 0 ≤ j.dot → Valid t (γ ++ (x ∷ [])) j
  valid_moved s x u γ e h j m n =
      let (i, a, (r, b), c, d, f) = P.go_back s u x j e m n in
      moved_valid γ i j x r b c d (h i a)

  -- an item with its dot in front, whose left side stands after the dot of a valid one
  valid_closed : (γ : List ℕ) (i j : Item) → Valid t γ i → After t.grammar i (rule_at t.grammar j.rule).left → j.dot ≡ 0 → Valid t γ j
  valid_closed γ i j val (r, e) z = record {
    before = γ;
    after = r ++ val.after;
    reads = rw z (sym (append-nil γ));
    source = inl (listed, subst (λ (l : List ℕ). Derives t.grammar (start t.grammar ∷ []) (γ ++ (l ++ val.after))) e (valid_derives val));
    fruit = fruitful_join (fruitful_split ((rule_at t.grammar j.rule).left ∷ []) r (right-parts i.rule i.dot e).1).1 val.fruit;
  }
    where
      listed : Mem (rule_at t.grammar j.rule) t.grammar.rules
      listed = ⊎_elim (λ m. m)
          (λ k. absurd (no_end_right t P i.rule _ (drop-mem i.dot (right_of t i) _ r e) (ap (λ q. q.left) k.1)))
          (get_d_cases t.grammar.rules j.rule (accept_rule t.grammar))

  -- the accept rule's item
  valid_accept : (γ : List ℕ) (j : Item) → γ ≡ [] → j.dot ≡ 0 → j.rule ≡ length t.grammar.rules → Valid t γ j
  valid_accept γ j e z k = record {
    before = [];
    after = [];
    reads = rw z e;
    source = inr (get_or-eq_default t.grammar.rules (accept_rule t.grammar) (rw k (le_refl _)), refl, refl);
    fruit = ([], end);
  }

  -- In a state, where the moved items are valid and the accept item too, all are: from the first to the last.
  module _ (s : ℕ) (γ : List ℕ) (first : s ≡ 0 → γ ≡ []) (kernel : (j : Item) → InState t s j → suc 0 ≤ j.dot → Valid t γ j) where
    valid_at : (front back : List Item) (j : Item) → (state_at t s).items ≡ front ++ (j ∷ back) → ((i : Item) → Mem i front → Valid t γ i) → (d : ℕ) →
        j.dot ≡ d → Valid t γ j
    valid_at front back j e h (suc d) z = kernel j (rw e (Memᴰ.append_right front (Mem·head refl))) (rw z (suc-le-suc zero-le))
    valid_at front back j e h zero z = ⊎_elim
        (λ a. valid_accept γ j (first a.0) z a.1)
        (λ a. valid_closed γ a.0 j (h a.0 a.1) a.2 z)
        (P.justified s front back j e z)

    valid_sweep : (back front : List Item) → (state_at t s).items ≡ front ++ back → ((i : Item) → Mem i front → Valid t γ i) → (j : Item) →
        Mem j back → Valid t γ j
    valid_sweep [] front e h j m = absurd (Memᴰ.not-nil m)
    valid_sweep (k ∷ back) front e h j m =
        let val : Valid t γ k = valid_at front back k e h k.dot refl in
        ⊎_elim
        (λ a. subst (λ q. Valid t γ q) (sym a) val)
        (λ a. valid_sweep back (front ++ (k ∷ [])) (e ∙ sym (append_assoc front (k ∷ []) back))
        (λ i n. ⊎_elim (h i) (λ n'. subst (λ q. Valid t γ q) (sym (Memᴰ.eq_of_singleton n')) val) (Memᴰ.append_cases front n)) j a)
        (Memᴰ.cases_cons m)

    valid_all : (j : Item) → InState t s j → Valid t γ j
    valid_all j m = valid_sweep (state_at t s).items [] refl (λ i n. absurd (Memᴰ.not-nil n)) j m

  -- validity: each item of the top state of a whole stack is valid for the stack's string
  pub stack_valid : {s : ℕ} {below : List ℕ} (st : Stack t (s ∷ below)) (j : Item) → InState t s j → Valid t (spelled st) j
  unfolding spelled
  stack_valid bottom j m = valid_all 0 [] (λ e. refl) (λ i k n. let z = P.first_dots i k in absurd (omega arith)) j m
  stack_valid (push {s} {u} x e st) j m =
      valid_all u (spelled st ++ (x ∷ [])) (λ z. absurd (goto-first s x (rw z at e)))
      (λ i k n. valid_moved s x u (spelled st) e (λ i' k'. stack_valid st i' k') i k n) j m
