-- The bounds: every tail of tokens is judged, in at most so many steps, and with forests of at most so many nodes.
-- A reduce phase ends and costs no more steps than the potential falls; a shift adds at most one inner node and one root's weight for each
-- state, and makes at most all states pending again. So each token but the first costs its share.
use Rattle.std.specs.Prelude.{ℕ, zero, suc, ◌+◌, ◌*◌, ◌≤◌, ◌<◌, ◌≡◌, refl, Bool, true, false, List, [], ◌∷◌, length, T}
use Rattle.std.proofs.Common.{subst, arith, mul-le-mul_left}
use Rattle.std.proofs.Math.Option.{Option, none, some}
use Rattle.theory.specs.Grammar.{Tokens, token}
use Rattle.theory.specs.Table.{Table, count}
use Rattle.theory.specs.Table.Facts.{Facts}
use Rattle.theory.proofs.Table.Access.{acc, acc-goto}
use Rattle.theory.specs.Forest.{Forest, nothing, tree, size, long, Phase, Chosen, choose, reduced, Reduces, done, step, shift, Takes, all, on, stop, Judged, none_shifts, runs, Rising, bare}
use Rattle.theory.specs.Forest.Joins.{is_none}
use Rattle.theory.specs.Forest.Between.{ReducesAll, TakesAll, JudgedAll}
use Rattle.theory.specs.Forest.Sizes.{inner}
use Rattle.theory.proofs.Forest.Sizes.{all_map, size-split}
use Rattle.theory.proofs.Forest.Counts.{width-rising}
use Rattle.theory.proofs.Forest.Growth.{grow-bares, grow-lift-all, grow-inner, grow-rising, long-roots, long-inner, long-lift, long-rising}
use Rattle.theory.specs.Bound.Heights.{Height}
use Rattle.theory.proofs.Bound.Potential.{cost-split, is_open, open_high, pending-le, Inv}
use Rattle.theory.proofs.Bound.Steps.{Falls, step_falls, costs, each, weight, potential}
use Rattle.theory.specs.Bound.{fresh_phase}
pub mod Heights
pub mod Potential
pub mod Steps

module _ (t : Table) (P : Facts t) where
  -- the phase on the first token begins well
  pub long-inv : (a : ℕ) → a < t.grammar.terms → Inv t (fresh_phase (long t a))
  long-inv a l = record {
    rising = long-rising P a;
    closed = all_map (λ u k. acc t u ≡ a) (λ u k. T (is_none k) → T (is_open t [] u) → ⊥)
        (λ u k q n o. let h = open_high t [] u o in omega arith) (long t a) (long-roots P a (λ u. acc t u ≡ a) (λ c u e. acc-goto t P c a u e));
  }

  -- so does each later one
  pub shift-inv : (a : ℕ) (F : Forest) → Rising (count t) F → Inv t (fresh_phase (shift t a F))
  shift-inv a F r = record {
    rising = grow-rising t a (count t) (λ s u e. P.go_to s a u e) zero F nothing r bare;
    closed = grow-bares t a (λ u. T (is_open t [] u) → ⊥) zero F nothing tt;
  }

  -- a shift makes inner nodes of the roots, at most m
  pub shift-inner : (a : ℕ) (F : Forest) → Rising (count t) F → inner (shift t a F) ≤ inner F + count t
  shift-inner a F r = omega (arith, grow-inner t a zero F nothing, size-split F, width-rising (count t) F r)

  pub size-le : (F : Forest) → Rising (count t) F → size F ≤ inner F + count t
  size-le F r = omega (arith, size-split F, width-rising (count t) F r)

  module _ (B : ℕ) (H : Height t.grammar B) where
    -- the steps that a token may cost
    abbrev share : ℕ
    share = count t * (2 + B * (count t + 1))

    -- ---- a reduce phase ends

    abbrev Ends : ℕ → Phase → Type 0
    Ends a p = (n : ℕ) × (q : Phase) × Reduces t a p n q

    ends_by : (a : ℕ) (p : Phase) (o : Option Chosen) → choose t a p.forest ≡ o → Inv t p →
        ((c : Chosen) → Falls t P B H p (reduced t p c) → Ends a (reduced t p c)) → Ends a p
    ends_by a p none e inv f = (0, p, done e)
    ends_by a p (some c) e inv f = let r = f c (step_falls t P B H a p c inv e) in (suc r.0, r.1, step c e r.2)

    -- by recursion on a bound of the potential
    ends_in : (a k : ℕ) (p : Phase) → Inv t p → potential t P B H p ≤ k → Ends a p
    ends_in a zero p inv l = ends_by a p (choose t a p.forest) refl inv (λ c d. let z = d.less in absurd (omega arith))
    ends_in a (suc k) p inv l = ends_by a p (choose t a p.forest) refl inv
        (λ c d. ends_in a k (reduced t p c) d.inv (let z = d.less in omega arith))

    reduces_total : (a : ℕ) (p : Phase) → Inv t p → Ends a p
    reduces_total a p inv = ends_in a (potential t P B H p) p inv (omega arith)

    -- ---- what a phase costs, and what it leaves

    record Left (n : ℕ) (p q : Phase) : Type 0 where
      pub inv : Inv t q
      pub paid : n + potential t P B H q ≤ potential t P B H p
      pub within : inner q.forest ≤ inner p.forest

    reduces_left : {a n : ℕ} {p q : Phase} → Reduces t a p n q → Inv t p → Left n p q
    reduces_left (done e) inv = record { inv = inv; paid = omega arith; within = omega arith }
    reduces_left {a} (step {p = p} c e r) inv =
        let d = step_falls t P B H a p c inv e in
        let l = reduces_left r d.inv in
        record { inv = l.inv; paid = omega (arith, d.less, l.paid); within = omega (arith, d.within, l.within) }

    shift-cost : (a : ℕ) (F : Forest) → Rising (count t) F → costs t P B H (shift t a F) ≤ costs t P B H F + (each t P B H * count t + count t * B)
    shift-cost a F r =
        omega (
          arith,
          cost-split (each t P B H) (weight t P B H) F,
          cost-split (each t P B H) (weight t P B H) (shift t a F),
          mul-le-mul_left (each t P B H) (shift-inner a F r),
          grow-lift-all t a (weight t P B H) B (λ s. H.most (acc t s)) (count t) zero F nothing (shift-inv a F r).rising,
        )

    -- ---- a tail's steps

    takes_steps : {f : Forest} {w : List ℕ} {v : Bool} {i j : ℕ} → Takes t f w v i j → Inv t (fresh_phase f) → j ≤ costs t P B H f + length w * share
    takes_steps all inv = omega arith
    takes_steps (on {f = f} {a = a} {q = q} r e x) inv =
        let l = reduces_left r inv in
        let i = takes_steps x (subst (λ g. Inv t (fresh_phase g)) e (shift-inv a q.forest l.inv.rising)) in
        let c = subst (λ g. costs t P B H g ≤ costs t P B H q.forest + (each t P B H * count t + count t * B)) e
        (shift-cost a q.forest l.inv.rising) in
        omega (arith, l.paid, pending-le t (fresh_phase f))
    takes_steps (stop {f = f} r e) inv = let l = reduces_left r inv in omega (arith, l.paid, pending-le t (fresh_phase f))

    -- the first token costs no step, each later one its share
    pub judged_steps : {x : List ℕ} {v : Bool} {i k : ℕ} → Judged t x v i k → Tokens t.grammar x → k ≤ length x * share
    judged_steps Judged.empty o = omega arith
    judged_steps (none_shifts e) o = omega arith
    judged_steps (runs {a = a} {w = w} e x) (token l o) =
        let i = takes_steps x (subst (λ g. Inv t (fresh_phase g)) e (long-inv a l)) in
        let z = subst (λ g. costs t P B H g ≤ 0) e (omega (
          arith,
          cost-split (each t P B H) (weight t P B H) (long t a),
          mul-le-mul_left (each t P B H) (long-inner P a),
          long-lift P a (weight t P B H),
        )) in
        omega arith

    -- ---- every tail is judged

    abbrev Taking : Forest → List ℕ → Type 0
    Taking f w = (v : Bool) × (i : ℕ) × (j : ℕ) × Takes t f w v i j

    takes_by : (a : ℕ) (w : List ℕ) (f : Forest) (n : ℕ) (q : Phase) → Reduces t a (fresh_phase f) n q →
        (g : Forest) → shift t a q.forest ≡ g → Taking g w → Taking f (a ∷ w)
    takes_by a w f n q r nothing e x = (false, 0, n, stop r e)
    takes_by a w f n q r (tree s k b) e x = (x.0, suc x.1, n + x.2, on r e x.3)

    takes_total : (w : List ℕ) (f : Forest) → Inv t (fresh_phase f) → Taking f w
    takes_total [] f inv = (true, 0, 0, all)
    takes_total (a ∷ w) f inv =
        let r = reduces_total a (fresh_phase f) inv in
        let S = shift t a r.1.forest in
        takes_by a w f r.0 r.1 r.2 S refl (takes_total w S (shift-inv a r.1.forest (reduces_left r.2 inv).inv.rising))

    judged_by : (a : ℕ) (w : List ℕ) (g : Forest) → long t a ≡ g → Taking g w → (v : Bool) × (i : ℕ) × (k : ℕ) × Judged t (a ∷ w) v i k
    judged_by a w nothing e x = (false, 0, 0, none_shifts e)
    judged_by a w (tree s k b) e x = (x.0, suc x.1, x.2, runs e x.3)

    pub judged_total : (x : List ℕ) → Tokens t.grammar x → (v : Bool) × (i : ℕ) × (k : ℕ) × Judged t x v i k
    judged_total [] o = (true, 0, 0, Judged.empty)
    judged_total (a ∷ w) (token l o) = judged_by a w (long t a) refl (takes_total w (long t a) (long-inv a l))

    -- ---- the forests between two steps: in rising order, and of at most b nodes

    abbrev Held : ℕ → Forest → Type 0
    Held b f = Rising (count t) f × (size f ≤ b)

    reduces_held : {a n b : ℕ} {p q : Phase} (r : Reduces t a p n q) → Inv t p → inner p.forest + count t ≤ b → ReducesAll (Held b) r
    reduces_held (done {p = p} e) inv l = (inv.rising, omega (arith, size-le p.forest inv.rising))
    reduces_held {a} (step {p = p} c e r) inv l =
        let d = step_falls t P B H a p c inv e in
        ((inv.rising, omega (arith, size-le p.forest inv.rising)), reduces_held r d.inv (omega (arith, d.within)))

    takes_held : {f : Forest} {w : List ℕ} {v : Bool} {i j b : ℕ} (x : Takes t f w v i j) → Inv t (fresh_phase f) →
        inner f + count t * suc (length w) ≤ b → TakesAll (Held b) x
    takes_held (all {f = f}) inv l = (inv.rising, omega (arith, size-le f inv.rising))
    takes_held {b = b} (on {a = a} {w = w} {q = q} r e x) inv l =
        let d = reduces_left r inv in
        let i = subst (λ g. inner g ≤ inner q.forest + count t) e (shift-inner a q.forest d.inv.rising) in (
          reduces_held r inv (omega arith),
          takes_held x (subst (λ g. Inv t (fresh_phase g)) e (shift-inv a q.forest d.inv.rising)) (omega (arith, d.within)),
        )
    takes_held (stop r e) inv l = reduces_held r inv (omega arith)

    pub judged_held : {x : List ℕ} {v : Bool} {i k b : ℕ} (y : Judged t x v i k) → Tokens t.grammar x → count t * length x ≤ b →
        JudgedAll (λ f. Rising (count t) f × (size f ≤ b)) y
    judged_held Judged.empty o h = tt
    judged_held (none_shifts e) o h = tt
    judged_held (runs {a = a} e x) (token l o) h =
        let z = subst (λ g. inner g ≤ 0) e (long-inner P a) in
        takes_held x (subst (λ g. Inv t (fresh_phase g)) e (long-inv a l)) (omega arith)
