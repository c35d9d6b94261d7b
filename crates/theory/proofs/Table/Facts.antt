-- The conditions as the proofs use them: of every state number, read off `goto` and `reduce_on`, without places in lists. (Condition 2, and of
-- condition 1 that every other state has an item with dot above 0, no proof of the demands uses.)
-- A number that is no state has no item and no line, so the bound on the state goes; of two items that are not the same one stands before
-- the other, so the conditions on places give those on items; the lines' symbols rise, so each line is the one that `goto` reads.
use Rattle.std.specs.Prelude.{ℕ, ◌<◌, ◌≡◌, refl, length}
use Rattle.std.proofs.Common.{arith, sym, ap, ◌∙◌, subst, inl, inr, ⊎_elim}
use Rattle.std.proofs.Math.Decide.{dec_lt}
use Rattle.std.proofs.Math.Option.{some}
use mathlib.Core.List.{List, [], ◌∷◌, ◌++◌, head-eq_of_cons-eq}
use mathlib.Core.List.Memᴰ
use mathlib.Core.List.Memᴰ.{head as Mem·head}
use mathlib.Core.List.{Memᴰ as Mem}
use Rattle.std.proofs.Math.ListN.{get_or-eq_default}
use Rattle.theory.proofs.Basics.{mem_order}
use Rattle.theory.specs.Table.{Table, State, Item, Go, no_state, state_at, count, InState, goto, Moves, Passes}
use Rattle.theory.proofs.Table.Actions.{goto-line, line_goto}
use Rattle.theory.specs.Table.Facts.{Facts}

-- a number with something in its state is a state's
in_count : (t : Table) (s : ℕ) (X : State → Type 0) → (X no_state → ⊥) → X (state_at t s) → s < count t
in_count t s X none x = go (dec_lt s (count t))
  where
    go : Dec (s < count t) → s < count t
    go (yes l) = l
    go (no n) = absurd (none (subst X (get_or-eq_default t.states no_state (omega arith)) x))

pub item_state : (t : Table) (s : ℕ) (i : Item) → InState t s i → s < count t
item_state t s i m = in_count t s (λ q. Mem i q.items) Memᴰ.not-nil m

line_state : (t : Table) (s : ℕ) (g : Go) → Mem g (state_at t s).gos → s < count t
line_state t s g m = in_count t s (λ q. Mem g q.gos) Memᴰ.not-nil m

module _ {t : Table} (P : Passes t) where
  go_lines : (s : ℕ) (g : Go) → Mem g (state_at t s).gos → goto t s g.on ≡ some g.to
  go_lines s g m = line_goto t s g m (P.fits.go_rise s)

  -- a go line that `goto` reads, with what condition 5 says of it
  record Line (s u x : ℕ) : Type 0 where
    from : s < count t
    to : u < count t
    line : Go
    held : Mem line (state_at t s).gos
    on : line.on ≡ x
    target : line.to ≡ u
    moves : Moves t s line

  line : (s u x : ℕ) → goto t s x ≡ some u → Line s u x
  line s u x e =
      let (g, m, o, q) = goto-line t s x u e in
      let l = line_state t s g m in
      record { from = l; to = rw q at (P.fits.go_to s g m); line = g; held = m; on = o; target = q; moves = (P.conditions.c5 s l).moves g m }

  -- the first item of state 0
  first_item : (i : Item) × (more : List Item) × ((state_at t 0).items ≡ i ∷ more) × (i.rule ≡ length t.grammar.rules)
  first_item = (P.conditions.c1 0 P.fits.some_state).first refl

  first_dots : (i : Item) → InState t 0 i → i.dot ≡ 0
  first_dots i m = (P.conditions.c1 0 P.fits.some_state).dots refl i m

  accept_ahead : (s : ℕ) (i : Item) → InState t s i → i.rule ≡ length t.grammar.rules → i.ahead ≡ t.grammar.terms ∷ []
  accept_ahead s i m e = (P.conditions.c1 s (item_state t s i m)).accept i m e

  -- what no two places of a state have in common holds of one item only
  same_item : (s : ℕ) (i j : Item) → InState t s i → InState t s j →
      ((before after : List Item) → (state_at t s).items ≡ before ++ (j ∷ after) → Mem i before → ⊥) →
      ((before after : List Item) → (state_at t s).items ≡ before ++ (i ∷ after) → Mem j before → ⊥) → i ≡ j
  same_item s i j m n a b =
      ⊎_elim (λ e. e) (λ o. absurd (⊎_elim (λ (x, y, e, k). a x y e k) (λ (x, y, e, k). b x y e k) o)) (mem_order m n)

  -- what stands first in state 0 is of the accept rule
  first_rule_law : (s : ℕ) (before after : List Item) (j : Item) → (state_at t s).items ≡ before ++ (j ∷ after) → s ≡ 0 → before ≡ [] →
      j.rule ≡ length t.grammar.rules
  first_rule_law s before after j e q b =
      let (i, more, f, r) = first_item in
      let same : j ∷ after ≡ i ∷ more = ap (λ (l : List Item). l ++ (j ∷ after)) (sym b) ∙ sym e ∙ ap (λ (n : ℕ). (state_at t n).items) q ∙ f in
      ap (λ (k : Item). k.rule) (head-eq_of_cons-eq same) ∙ r

  -- what stands at a place is there
  at_place : (s : ℕ) (before after : List Item) (j : Item) → (state_at t s).items ≡ before ++ (j ∷ after) → s < count t
  at_place s before after j e = item_state t s j (rw e (Memᴰ.append_right before (Mem·head refl)))

  pub facts : Facts t
  facts = record {
    formed = P.fits.formed;
    reduced = P.reduced;
    no_ring = P.no_ring;
    item_rule = P.fits.item_rule;
    go_from = λ s x u e. (line s u x e).from;
    go_to = λ s x u e. (line s u x e).to;
    go_lines = go_lines;
    first_item = let (i, more, e, r) = first_item in let m : InState t 0 i = rw e (Mem·head refl) in
        (i, m, r, first_dots i m, accept_ahead 0 i m r);
    first_dots = first_dots;
    accept_ahead = accept_ahead;
    justified = λ s b a j e z. ⊎_elim (λ (q, n). inl (q, first_rule_law s b a j e q n)) (λ k. inr k) (P.conditions.c3 s (at_place s b a j e) b a j e z);
    closed = λ s i b more r m. P.conditions.c4 s (item_state t s i m) i b more r m;
    go_has = λ s u x e. let l = line s u x e in let (i, m, a) = l.moves.asked in (i, m, rw l.on at a);
    has_go = λ s x i m a. let (g, n, e) = (P.conditions.c5 s (item_state t s i m)).has_line i x m a in (g.to, rw e at (go_lines s g n));
    go_on = λ s u x i e m a. let l = line s u x e in let (j, n, r, d, k) = l.moves.onward i m (rw l.on a) in (j, rw l.target at n, r, d, k);
    go_back = λ s u x j e m h. let l = line s u x e in let (i, n, a, r, d, k) = l.moves.back j (rw l.target m) h in
        (i, n, rw l.on at a, r, d, k);
    led_to = λ u l z. let (s, g, h, m, e) = P.conditions.c6 u l z in (s, g.on, h, rw e at (go_lines s g m));
    one_reduce = λ s a i j m n c d h k. let o = (P.conditions.c7 s (item_state t s i m)).one_item in
        same_item s i j m n (λ b f e q. o b f i j a e q c d h k) (λ b f e q. o b f j i a e q d c k h);
    shift_or_reduce = λ s a u i e h m c n. let l = line s u a e in
        (P.conditions.c7 s l.from).no_shift l.line i l.held m (rw l.on h) c (rw l.on n);
  }
