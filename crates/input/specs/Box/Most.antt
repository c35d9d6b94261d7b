-- The most tokens that are judged. A table that passes has at least three states: the first, one for the start symbol and one for a token. So the
-- room sets a bound whatever the table is.
use Rattle.std.specs.Prelude.{ℕ, ◌+◌, ◌≤◌, ◌<◌, ◌≡◌, length}
use Rattle.std.proofs.Common.{arith, mul-le-mul_right, sym, ap, ◌∙◌, subst}
use Rattle.std.proofs.Math.Option.{some}
use mathlib.Core.List.{List, [], ◌∷◌, nil≢cons}
use Rattle.std.proofs.Math.ListN.{get_or-eq_default}
use Rattle.theory.specs.Grammar.{Rule, Grammar, Tokens, token, start}
use Rattle.theory.proofs.Grammar.First.{yields_token, begins_first}
use Rattle.theory.proofs.Grammar.Fruitful.{start-fruitful}
use Rattle.theory.specs.Table.{Table, Item, Passes, InState, count, goto, rest, accept_rule}
use Rattle.theory.specs.Table.Facts.{Facts}
use Rattle.theory.proofs.Table.Facts.{facts}
use Rattle.theory.proofs.Table.Access.{acc, acc-goto}
use Rattle.theory.proofs.Machine.Valid.{goto-item}
use Rattle.theory.proofs.Machine.Complete.{piece_feeds}
use Rattle.judge.specs.Judge.{words}
use Rattle.judge.specs.declared.Judgement.{Judgement}
use Rattle.input.specs.Box.{Box, small_box}
use Rattle.input.specs.Box.Worth.{Worthy}

-- the first of a string of tokens is a token
first_token : {g : Grammar} {a : ℕ} {w : List ℕ} → Tokens g (a ∷ w) → a < g.terms
first_token (token l h) = l

module _ (t : Table) (F : Facts t) where
  -- no go line leads to state 0
  not_first : (s x u : ℕ) → goto t s x ≡ some u → u ≡ 0 → ⊥
  not_first s x u e z =
      let (i, m, n) = goto-item F s x u e in
      let d = F.first_dots i (subst (λ (v : ℕ). InState t v i) z m) in
      omega arith

  -- go lines on two symbols lead to two states
  apart : (s x u s' x' u' : ℕ) → goto t s x ≡ some u → goto t s' x' ≡ some u' → (x ≡ x' → ⊥) → u ≡ u' → ⊥
  apart s x u s' x' u' e e' n z = n (sym (acc-goto t F s x u e) ∙ (ap (acc t) z ∙ acc-goto t F s' x' u' e'))

  -- some go line is on a token
  token_go : (s : ℕ) × (a : ℕ) × (u : ℕ) × (a < t.grammar.terms) × (goto t s a ≡ some u)
  token_go =
      let (w, y) = start-fruitful F.formed F.reduced in
      let (a, v, e) = yields_token F.formed y (λ z. nil≢cons (sym z)) in
      let (r, d, k) = begins_first y e in
      let (s, u, below, n, S, g, f) = piece_feeds F a [] ([], r, (d, k)) in
      (s, a, u, first_token k, g)

  -- and one is on the start symbol
  start-go : (u : ℕ) × (goto t 0 (start t.grammar) ≡ some u)
  start-go =
      let (i, m, r, d, h) = F.first_item in
      F.has_go 0 (start t.grammar) i m ([], accepts i r d)
    where
      accepts : (i : Item) → i.rule ≡ length t.grammar.rules → i.dot ≡ 0 → rest t.grammar i ≡ start t.grammar ∷ []
      accepts i r d = rw d (rw r (ap (λ (x : Rule). x.right) (get_or-eq_default t.grammar.rules (accept_rule t.grammar) (omega arith))))

-- a table that passes has at least three states
pub three_states : (t : Table) → Passes t → 3 ≤ count t
three_states t p =
    let F = facts p in
    let (s, a, u, l, e) = token_go t F in
    let (w, f) = start-go t F in
    let x = F.go_to s a u e in
    let y = F.go_to 0 (start t.grammar) w f in
    let i : u ≡ 0 → ⊥ = not_first t F s a u e in
    let k : w ≡ 0 → ⊥ = not_first t F 0 (start t.grammar) w f in
    let z : u ≡ w → ⊥ = apart t F s a u 0 (start t.grammar) w e f (λ q. omega arith) in
    omega arith

-- what is judged has room with three states
pub three_rooms : {b : Box} {bs : List ℕ} {j : Judgement} (w : Worthy b bs j) → words 3 (length w.tail) ≤ b.words
three_rooms w =
    let h = three_states w.worth.table w.worth.good.passes in
    let k = mul-le-mul_right (length w.tail + 2) h in
    let r = w.ready.enough in
    omega arith

-- so document 01's program judges at most 339 tokens
pub most_tokens : {bs : List ℕ} {j : Judgement} (w : Worthy small_box bs j) → length w.tail ≤ 339
unfolding small_box
most_tokens w = let h = three_rooms w in omega arith
