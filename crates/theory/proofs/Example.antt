-- `Passes` can be met: the table of the grammar with one rule, S → a. (Symbol 0 is a, 1 the end mark, 2 is S.)
-- Its items and go lines are listed one by one, and each condition is proved for each of them.
use Rattle.std.specs.Prelude.{ℕ, zero, suc, ◌≤◌, ◌<◌, ◌≡◌, refl, ◌⊎◌, length}
use Rattle.std.proofs.Common.{arith, sym, ap, ◌∙◌, subst, inl, inr, ⊎_elim}
use mathlib.Core.List.{List, [], ◌∷◌, ◌++◌, nil≢cons, head-eq_of_cons-eq, tail-eq_of_cons-eq}
use mathlib.Core.List.Memᴰ
use mathlib.Core.List.Memᴰ.{head as Mem·head}
use mathlib.Core.List.Memᴰ.{tail as Mem·tail}
use mathlib.Core.List.{Memᴰ as Mem}
use Rattle.theory.specs.Grammar.{Rule, Grammar, Nonterm, Productive, Reachable, same, more, replace, empty, token, UnitTo, one, then, WellFormed, Reduced}
use Rattle.theory.specs.Table.{Table, Item, Go, rule_at, rest, After, Complete, InState, state_at, count, Fits, Condition1, Closing, Condition3, Moves, Condition7, Passes}
pub mod Box

abbrev rule₀ : Rule
rule₀ = record { left = 2; right = 0 ∷ [] }

abbrev g : Grammar
g = record { terms = 1; nonterms = 1; rules = rule₀ ∷ [] }

abbrev it : ℕ → ℕ → Item
it r d = record { rule = r; dot = d; ahead = 1 ∷ [] }

abbrev go : ℕ → ℕ → Go
go x u = record { on = x; to = u }

abbrev t : Table
t = record {
  grammar = g;
  states =
      record { items = it 1 0 ∷ (it 0 0 ∷ []); gos = go 0 1 ∷ (go 2 2 ∷ []) } ∷
      (record { items = it 0 1 ∷ []; gos = [] } ∷ (record { items = it 1 1 ∷ []; gos = [] } ∷ []));
}

-- ---- the items and go lines, one by one

data Has : ℕ → Item → Type 0 where
  i₁ : Has 0 (it 1 0)
  i₂ : Has 0 (it 0 0)
  i₃ : Has 1 (it 0 1)
  i₄ : Has 2 (it 1 1)

data Line : ℕ → Go → Type 0 where
  l₁ : Line 0 (go 0 1)
  l₂ : Line 0 (go 2 2)

has : (s : ℕ) (i : Item) → InState t s i → Has s i
has zero i m = ⊎_elim (λ e. subst (λ j. Has 0 j) (sym e) i₁) (λ m'. subst (λ j. Has 0 j) (sym (Memᴰ.eq_of_singleton m')) i₂)
    (Memᴰ.cases_cons m)
has (suc zero) i m = subst (λ j. Has 1 j) (sym (Memᴰ.eq_of_singleton m)) i₃
has (suc (suc zero)) i m = subst (λ j. Has 2 j) (sym (Memᴰ.eq_of_singleton m)) i₄
has (suc (suc (suc s))) i m = absurd (Memᴰ.not-nil m)

line : (s : ℕ) (l : Go) → Mem l (state_at t s).gos → Line s l
line zero l m = ⊎_elim (λ e. subst (λ k. Line 0 k) (sym e) l₁) (λ m'. subst (λ k. Line 0 k) (sym (Memᴰ.eq_of_singleton m')) l₂)
    (Memᴰ.cases_cons m)
line (suc zero) l m = absurd (Memᴰ.not-nil m)
line (suc (suc zero)) l m = absurd (Memᴰ.not-nil m)
line (suc (suc (suc s))) l m = absurd (Memᴰ.not-nil m)

in₁ : InState t 0 (it 1 0)
in₁ = Mem·head refl

in₂ : InState t 0 (it 0 0)
in₂ = Mem·tail (Mem·head refl)

-- ---- places in lists of at most two

no_place : {A : Type 0} (before after : List A) (j : A) → [] ≡ before ++ (j ∷ after) → ⊥
no_place [] after j e = nil≢cons e
no_place (x ∷ before) after j e = nil≢cons e

one_place : {A : Type 0} {p : A} (before after : List A) (j : A) → p ∷ [] ≡ before ++ (j ∷ after) → (before ≡ []) × (j ≡ p)
one_place [] after j e = (refl, sym (head-eq_of_cons-eq e))
one_place (x ∷ before) after j e = absurd (no_place before after j (tail-eq_of_cons-eq e))

two_places : {A : Type 0} {p q : A} (before after : List A) (j : A) → p ∷ (q ∷ []) ≡ before ++ (j ∷ after) →
    ((before ≡ []) × (j ≡ p)) ⊎ ((before ≡ p ∷ []) × (j ≡ q))
two_places [] after j e = inl (refl, sym (head-eq_of_cons-eq e))
two_places (x ∷ before) after j e =
    let (b, k) = one_place before after j (tail-eq_of_cons-eq e) in
    inr ((λ i. sym (head-eq_of_cons-eq e) i ∷ b i), k)

-- of two items of a state the first comes before the second only in state 0
before-cases : (s : ℕ) (before after : List Item) (i j : Item) → (state_at t s).items ≡ before ++ (j ∷ after) → Mem i before → (i ≡ it 1 0) ×
    (j ≡ it 0 0)
before-cases zero before after i j e m =
    ⊎_elim (λ (b, k). absurd (Memᴰ.not-nil (rw b at m))) (λ (b, k). (Memᴰ.eq_of_singleton (rw b at m), k)) (two_places before after j e)
before-cases (suc zero) before after i j e m = absurd (Memᴰ.not-nil (rw (one_place before after j e).0 at m))
before-cases (suc (suc zero)) before after i j e m = absurd (Memᴰ.not-nil (rw (one_place before after j e).0 at m))
before-cases (suc (suc (suc s))) before after i j e m = absurd (no_place before after j e)

-- ---- the grammar

unit : {a b : ℕ} → UnitTo g a b → (a ≡ 2) × (b ≡ 0)
unit (one r m e) = let z : r ≡ rule₀ = Memᴰ.eq_of_singleton m in (ap (λ q. q.left) z, head-eq_of_cons-eq (sym e ∙ ap (λ q. q.right) z))
unit (then x y) = let a = unit x in let b = unit y in (a.0, b.1)

formed : WellFormed g
formed = record {
  has_start = omega arith;
  lefts = λ r m. subst (λ q. Nonterm g q.left) (sym (Memᴰ.eq_of_singleton m)) (omega arith, omega arith);
  filled = λ r m e. nil≢cons (sym (sym (ap (λ q. q.right) (Memᴰ.eq_of_singleton m)) ∙ e));
  no_end = λ r x m k e. let z : x ≡ 0 = Memᴰ.eq_of_singleton (subst (λ q. Mem x q.right) (Memᴰ.eq_of_singleton m) k) in omega arith;
  in_range = λ r x m k. let z : x ≡ 0 = Memᴰ.eq_of_singleton (subst (λ q. Mem x q.right) (Memᴰ.eq_of_singleton m) k) in omega arith;
}

reduced : Reduced g
reduced = record {
  productive = λ a n. let z : a ≡ 2 = omega arith in subst (λ b. Productive g b) (sym z)
      (0 ∷ [], more (replace [] [] rule₀ (Mem·head refl)) same, token (omega arith) empty);
  reachable = λ a n. let z : a ≡ 2 = omega arith in subst (λ b. Reachable g b) (sym z) ([], [], same);
}

-- ---- the ranges

ranges : (s : ℕ) (i : Item) → Has s i → (i.rule ≤ 1) × (i.dot ≤ length (rule_at g i.rule).right) × (i.ahead ≡ 1 ∷ [])
ranges s i i₁ = (omega arith, omega arith, refl)
ranges s i i₂ = (omega arith, omega arith, refl)
ranges s i i₃ = (omega arith, omega arith, refl)
ranges s i i₄ = (omega arith, omega arith, refl)

line_ranges : (s : ℕ) (l : Go) → Line s l → (l.to < 3) × (l.on ≤ 2) × (l.on ≡ 1 → ⊥)
line_ranges s l l₁ = (omega arith, omega arith, λ e. omega arith)
line_ranges s l l₂ = (omega arith, omega arith, λ e. omega arith)

rise : (s : ℕ) (before after : List Go) (k l : Go) → (state_at t s).gos ≡ before ++ (l ∷ after) → Mem k before → k.on < l.on
rise zero before after k l e m =
    ⊎_elim (λ (b, q). absurd (Memᴰ.not-nil (rw b at m)))
    (λ (b, q). let x : k.on ≡ 0 = ap (λ (c : Go). c.on) (Memᴰ.eq_of_singleton (rw b at m)) in
    let y : l.on ≡ 2 = ap (λ (c : Go). c.on) q in omega arith)
    (two_places before after l e)
rise (suc zero) before after k l e m = absurd (no_place before after l e)
rise (suc (suc zero)) before after k l e m = absurd (no_place before after l e)
rise (suc (suc (suc s))) before after k l e m = absurd (no_place before after l e)

fits : Fits t
fits = record {
  formed = formed;
  some_state = omega arith;
  item_rule = λ s i m. (ranges s i (has s i m)).0;
  item_dot = λ s i m. (ranges s i (has s i m)).1;
  item_ahead = λ s i a m k. let z : a ≡ 1 = Memᴰ.eq_of_singleton (rw (ranges s i (has s i m)).2 at k) in omega arith;
  go_to = λ s l m. (line_ranges s l (line s l m)).0;
  go_on = λ s l m. ((line_ranges s l (line s l m)).1, (line_ranges s l (line s l m)).2);
  go_rise = rise;
}

-- ---- the conditions

dots : (s : ℕ) (i : Item) → Has s i → s ≡ 0 → i.dot ≡ 0
dots s i i₁ e = refl
dots s i i₂ e = refl
dots s i i₃ e = omega arith
dots s i i₄ e = omega arith

kernel : (s : ℕ) → s < count t → (s ≡ 0 → ⊥) → (i : Item) × InState t s i × (suc 0 ≤ i.dot)
kernel zero n z = absurd (z refl)
kernel (suc zero) n z = (it 0 1, Mem·head refl, omega arith)
kernel (suc (suc zero)) n z = (it 1 1, Mem·head refl, omega arith)
kernel (suc (suc (suc s))) n z = absurd (omega arith)

condition1 : (s : ℕ) → s < count t → Condition1 t s
condition1 s l = record {
  first = λ e. (it 1 0, it 0 0 ∷ [], ap (λ (n : ℕ). (state_at t n).items) e, refl);
  dots = λ e i m. dots s i (has s i m) e;
  accept = λ i m e. (ranges s i (has s i m)).2;
  kernel = kernel s l;
}

-- the first item of each state, and the second of state 0
condition3 : (s : ℕ) → s < count t → Condition3 t s
condition3 zero l before after j e z =
    ⊎_elim (λ (b, k). inl (refl, b))
    (λ (b, k). inr (it 1 0, rw b (Mem·head refl), ([], ap (λ (q : Item). (rule_at g q.rule).left ∷ []) (sym k))))
    (two_places before after j e)
condition3 (suc zero) l before after j e z = let y = sym z ∙ ap (λ (q : Item). q.dot) (one_place before after j e).1 in absurd (omega arith)
condition3 (suc (suc zero)) l before after j e z = let y = sym z ∙ ap (λ (q : Item). q.dot) (one_place before after j e).1 in absurd (omega arith)
condition3 (suc (suc (suc s))) l before after j e z = absurd (omega arith)

-- what stands after a dot
afters : (s : ℕ) (i : Item) → Has s i → (b : ℕ) (m : List ℕ) → rest g i ≡ b ∷ m →
    ((s ≡ 0) × (i ≡ it 1 0) × (b ≡ 2) × (m ≡ [])) ⊎ ((s ≡ 0) × (i ≡ it 0 0) × (b ≡ 0) × (m ≡ []))
afters s i i₁ b m e = inl (refl, refl, sym (head-eq_of_cons-eq e), sym (tail-eq_of_cons-eq e))
afters s i i₂ b m e = inr (refl, refl, sym (head-eq_of_cons-eq e), sym (tail-eq_of_cons-eq e))
afters s i i₃ b m e = absurd (nil≢cons e)
afters s i i₄ b m e = absurd (nil≢cons e)

-- the one place where a rule's left side stands after a dot
closes : (s : ℕ) (i : Item) (b : ℕ) (l : List ℕ) (r : ℕ) →
    ((s ≡ 0) × (i ≡ it 1 0) × (b ≡ 2) × (l ≡ [])) ⊎ ((s ≡ 0) × (i ≡ it 0 0) × (b ≡ 0) × (l ≡ [])) → r ≡ 0 → (rule_at g r).left ≡ b → Closing t s i l r
closes s i b l r (inl (z, e, c, d)) k f = record {
  item = it 0 0;
  here = rw z in₂;
  its_rule = sym k;
  its_dot = refl;
  begins = λ x xs a h. absurd (nil≢cons (sym d ∙ h));
  own = λ h a n. subst (λ q. Mem a q.ahead) e n;
}
closes s i b l r (inr (z, e, c, d)) k f = let w : ◌≡◌ {A = ℕ} 2 0 = ap (λ q. (rule_at g q).left) (sym k) ∙ f ∙ c in absurd (omega arith)

asked : (s : ℕ) (l : Go) → Line s l → (i : Item) × InState t s i × After g i l.on
asked s l l₁ = (it 0 0, in₂, ([], refl))
asked s l l₂ = (it 1 0, in₁, ([], refl))

onward : (s : ℕ) (l : Go) (i : Item) → Line s l → ((s ≡ 0) × (i ≡ it 1 0) × (l.on ≡ 2)) ⊎ ((s ≡ 0) × (i ≡ it 0 0) × (l.on ≡ 0)) →
    (j : Item) × InState t l.to j × (j.rule ≡ i.rule) × (j.dot ≡ suc i.dot) × ((a : ℕ) → Mem a i.ahead → Mem a j.ahead)
onward s l i l₁ (inl a) = absurd (omega (arith, a.2))
onward s l i l₁ (inr (z, e, c)) = (
  it 0 1,
  Mem·head refl,
  ap (λ (q : Item). q.rule) (sym e),
  ap (λ (q : Item). suc q.dot) (sym e),
  λ b m. subst (λ q. Mem b q.ahead) e m,
)
onward s l i l₂ (inl (z, e, c)) = (
  it 1 1,
  Mem·head refl,
  ap (λ (q : Item). q.rule) (sym e),
  ap (λ (q : Item). suc q.dot) (sym e),
  λ b m. subst (λ q. Mem b q.ahead) e m,
)
onward s l i l₂ (inr a) = absurd (omega (arith, a.2))

back : (s : ℕ) (l : Go) (j : Item) → Line s l → Has l.to j →
    (i : Item) × InState t s i × After g i l.on × (j.rule ≡ i.rule) × (j.dot ≡ suc i.dot) × ((a : ℕ) → Mem a i.ahead → Mem a j.ahead)
back s l j l₁ i₃ = (it 0 0, in₂, ([], refl), refl, refl, λ a m. m)
back s l j l₂ i₄ = (it 1 0, in₁, ([], refl), refl, refl, λ a m. m)

symbol : (s : ℕ) (i : Item) (x : ℕ) → InState t s i → After g i x → ((s ≡ 0) × (i ≡ it 1 0) × (x ≡ 2)) ⊎ ((s ≡ 0) × (i ≡ it 0 0) × (x ≡ 0))
symbol s i x m (l, e) = ⊎_elim (λ a. inl (a.0, a.1, a.2)) (λ a. inr (a.0, a.1, a.2)) (afters s i (has s i m) x l e)

moves : (s : ℕ) (l : Go) → Line s l → Moves t s l
moves s l k = record {
  asked = asked s l k;
  onward = λ i m a. onward s l i k (symbol s i l.on m a);
  back = λ j m n. back s l j k (has l.to j m);
}

has_line : (s : ℕ) (i : Item) (x : ℕ) → ((s ≡ 0) × (i ≡ it 1 0) × (x ≡ 2)) ⊎ ((s ≡ 0) × (i ≡ it 0 0) × (x ≡ 0)) → (l : Go) ×
    Mem l (state_at t s).gos × (l.on ≡ x)
has_line s i x (inl (a, b, c)) = (go 2 2, rw a (Mem·tail (Mem·head refl)), sym c)
has_line s i x (inr (a, b, c)) = (go 0 1, rw a (Mem·head refl), sym c)

condition6 : (s : ℕ) → s < count t → (s ≡ 0 → ⊥) → (u : ℕ) × (l : Go) × (u < s) × Mem l (state_at t u).gos × (l.to ≡ s)
condition6 zero n z = absurd (z refl)
condition6 (suc zero) n z = (0, go 0 1, omega arith, Mem·head refl, refl)
condition6 (suc (suc zero)) n z = (0, go 2 2, omega arith, Mem·tail (Mem·head refl), refl)
condition6 (suc (suc (suc s))) n z = absurd (omega arith)

-- no item of a state with go lines is complete
not_complete : (s : ℕ) (l : Go) (i : Item) → Line s l → Has s i → Complete g i → ⊥
not_complete s l i l₁ i₁ c = nil≢cons (sym c)
not_complete s l i l₁ i₂ c = nil≢cons (sym c)
not_complete s l i l₂ i₁ c = nil≢cons (sym c)
not_complete s l i l₂ i₂ c = nil≢cons (sym c)

condition7 : (s : ℕ) → Condition7 t s
condition7 s = record {
  one_item = λ b f i j a e m c d h k. nil≢cons (sym (subst (λ (q : Item). Complete g q) (before-cases s b f i j e m).0 c));
  no_shift = λ l i m n h c k. not_complete s l i (line s l m) (has s i n) c;
}

pub passes : Passes t
passes = record {
  fits = fits;
  reduced = reduced;
  no_ring = λ a n k. let z = unit k in omega arith;
  conditions = record {
    c1 = condition1;
    c2 = λ s l b f i j e m r d. let (x, y) = before-cases s b f i j e m in
        let z : ◌≡◌ {A = ℕ} 1 0 = ap (λ (q : Item). q.rule) (sym x) ∙ r ∙ ap (λ (q : Item). q.rule) y in omega arith;
    c3 = condition3;
    c4 = λ s l i b k r m e n f. closes s i b k r (afters s i (has s i m) b k e) (omega arith) f;
    c5 = λ s l. record { moves = λ k m. moves s k (line s k m); has_line = λ i x m a. has_line s i x (symbol s i x m a) };
    c6 = condition6;
    c7 = λ s l. condition7 s;
  };
}
