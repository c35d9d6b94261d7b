-- The reduce phase as a loop. What is left of the phase from any turn on is what was left of it before, less the steps made; the potential
-- pays for each step, so the loop's limit is never met.
use mathlib.Core.Path.{◌≡◌, ◌∙◌, refl, sym, ap, subst}
use mathlib.Core.Bool.{Bool, false}
use mathlib.Core.Option.{Option, none, some}
use mathlib.Core.List.{List, []}
use Prim.Native.Nat.{ℕ, suc, ◌+◌, ◌*◌, ◌≤◌, ◌<◌}
use native.Mathlib.Omega.{arith}
use native.Mathlib.Nat.{mul-le-mul, mul-le-mul_left, mul-le-mul_right}
use lib.ListN.{get_or, replicate, length-replicate, get_or-replicate}
use Rattle.lines.specs.Limits.{max_nonterms, max_states, max_tail}
use Rattle.lines.specs.Ranges.{InRange}
use Rattle.theory.specs.Table.{Table, Passes, count, has}
use Rattle.theory.proofs.Table.Facts.{facts}
use Rattle.theory.specs.Forest as Of
use Rattle.theory.specs.Forest.{Forest, nothing, tree, Phase, Chosen, choose, reduced, bare, rises, over}
use Rattle.theory.specs.Forest.Sizes.{inner, width, lift}
use Rattle.theory.proofs.Forest.Sizes.{size-split}
use Rattle.theory.proofs.Forest.Taken.{choose-taken, taken_sum, taken_rising}
use Rattle.theory.specs.Bound.{fresh_phase}
use Rattle.theory.specs.Bound.Heights.{Height}
use Rattle.theory.proofs.Bound.Heights.{height}
use Rattle.theory.proofs.Bound.Potential.{Inv, cost-split, pending-le}
use Rattle.theory.proofs.Bound.Steps.{weight, each, potential, step_falls}
use Rattle.forest.specs.Words.{at}
use Rattle.forest.specs.Picks.{SomeLinked, Picks}
use Rattle.forest.specs.Held.{Held, Becomes}
use Rattle.forest.specs.Phases.{max_symbols, most_steps, Marks, CanStep, SomeStep, Steps, CanPhase, SomePhase, Phases}
use Rattle.forest.proofs.Holding.{beyond_then}
use Rattle.forest.proofs.Parting.{CanPick, OnePicked, pick_some, pick_picks}
use Rattle.forest.proofs.Lookups.{meant_is, rule_in}

-- ---- the potential is below the limit

-- the weight of the roots' children is at most that of all inner nodes
lift-most : (w : ℕ → ℕ) (B : ℕ) → ((s : ℕ) → w s ≤ B) → (F : Forest) → lift w F ≤ inner F * B
lift-most w B h nothing = omega arith
lift-most w B h (tree s k b) =
    let i = lift-most w B h b in
    let l : width k * w s ≤ Of.size k * B = mul-le-mul (omega (arith, size-split k)) (h s) in
    omega arith

module _ (t : Table) (passes : Passes t) where
  -- heights of the symbols
  pub heights : Height t.grammar t.grammar.nonterms
  heights = height t.grammar (facts passes).formed (facts passes).no_ring

  -- what a phase may still cost
  abbrev pub pot : Phase → ℕ
  pot p = potential t (facts passes) t.grammar.nonterms heights p

  -- with so many inner nodes it is at most the limit
  pot-most : InRange t → (p : Phase) → inner p.forest ≤ max_states * (max_tail + 2) → pot p ≤ most_steps
  pot-most R p h =
      let B = t.grammar.nonterms in
      let m = count t in
      let i = inner p.forest in
      let a = R.nonterm_count.1 in
      let b = R.state_count.1 in
      let bm : B * m ≤ max_nonterms * max_states = mul-le-mul a b in
      let in_all : suc (B * m) * i ≤ suc (max_nonterms * max_states) * i = mul-le-mul_right i (omega arith) in
      let in-lift : i * B ≤ i * max_nonterms = mul-le-mul_left i a in
      omega (
        arith,
        cost-split (each t (facts passes) B heights) (weight t (facts passes) B heights) p.forest,
        lift-most (weight t (facts passes) B heights) B (λ s. heights.most _) p.forest,
        pending-le t p,
      )

-- ---- the loop

-- after n steps the room holds the forest of the phase `now`, and what is left of the phase is the rest of the whole
pub record Left (w₀ w : List ℕ) (marks : List Bool) (n C : ℕ) (t : Table) (passes : Passes t) (a : ℕ) (F : Forest) : Type 0 where
  pub now : Phase
  pub becomes : Becomes w₀ w C now.forest
  pub marked : Marks marks now.marked
  pub inv : Inv t now
  pub within : inner now.forest ≤ inner F
  pub paid : pot t passes now + n ≤ most_steps
  pub back : (k : ℕ) (q : Phase) → Of.Reduces t a now k q → Of.Reduces t a (fresh_phase F) (n + k) q

-- whatever forest the room held at first
pub record Turn (w₀ acts go lens lefts : List ℕ) (m : ℕ) (w : List ℕ) (marks : List Bool) (n : ℕ) : Type 0 where
  pub left : (C : ℕ) (t : Table) (a : ℕ) (F : Forest) → Held w₀ C F → (K : CanPhase acts go lens lefts m C t a F) →
      Left w₀ w marks n C t K.known.table.passes a F

-- no symbol is marked at first
no_marks : Marks (replicate max_symbols false) []
unfolding has
no_marks = record {
  each = λ a h. sym (get_or-replicate max_symbols a false false h);
  all = length-replicate {A = Bool} max_symbols false;
}

-- at first the whole phase is left
pub begins : {w acts go lens lefts : List ℕ} {m : ℕ} → Turn w acts go lens lefts m w (replicate max_symbols false) 0
begins = record {
  left = λ C t a F H K. record {
    now = fresh_phase F;
    becomes = record { held = H; beyond = λ q i h l. refl };
    marked = no_marks;
    inv = K.before;
    within = omega arith;
    paid = omega (arith, pot-most t K.known.table.passes K.known.table.ranges (fresh_phase F) (omega (arith, K.room, H.fits, H.words)));
    back = λ k q r. subst (λ (i : ℕ). Of.Reduces t a (fresh_phase F) i q) (omega arith) r;
  };
}

module _ {w₀ acts go lens lefts : List ℕ} {m : ℕ} {w : List ℕ} {marks : List Bool} {n : ℕ} (T : Turn w₀ acts go lens lefts m w marks n) where
  -- what `choose` asks
  can_pick : (C : ℕ) (t : Table) (a : ℕ) (F : Forest) (H : Held w₀ C F) (K : CanPhase acts go lens lefts m C t a F) →
      CanPick acts (count t) t a (T.left C t a F H K).now.forest
  can_pick C t a F H K = record { does = K.does; rising = (T.left C t a F H K).inv.rising }

  -- so it can be called
  pub turn_choose : SomePhase w₀ acts go lens lefts m → SomeLinked w acts 0 1
  turn_choose S =
      let L = T.left S.C S.t S.a S.F S.held S.can in
      pick_some w acts S.C (count S.t) S.t S.a L.now.forest L.becomes.held
      (can_pick S.C S.t S.a S.F S.held S.can)

  -- ---- none is picked: the phase is at its end
  pub turn_ends : {v : List ℕ} → Picks w acts 0 1 v 0 → Phases w₀ acts go lens lefts m v n
  turn_ends {v} P C t a F H K =
      let L = T.left C t a F H K in
      let N = (pick_picks w acts v 0 P C (count t) t a L.now.forest L.becomes.held (can_pick C t a F H K)).0 refl in
      record {
        end = L.now;
        reduces = subst (λ (k : ℕ). Of.Reduces t a (fresh_phase F) k L.now) (omega arith) (L.back 0 L.now (Of.done N.none_is));
        becomes = record { held = N.becomes.held; beyond = beyond_then w₀ w v C L.becomes.beyond N.becomes.beyond };
        few = omega (arith, L.paid);
      }

  -- ---- the limit is met: the potential is 0, so no root reduces
  pub turn_limit : n ≡ most_steps → Phases w₀ acts go lens lefts m w most_steps
  turn_limit e C t a F H K =
      let L = T.left C t a F H K in
      record {
        end = L.now;
        reduces = subst (λ (k : ℕ). Of.Reduces t a (fresh_phase F) k L.now) (omega arith)
            (L.back 0 L.now (Of.done (at_end t K.known.table.passes a L.now L.inv (omega (arith, L.paid)))));
        becomes = L.becomes;
        few = omega (arith, L.paid);
      }
    where
      at_end : (t : Table) (P : Passes t) (a : ℕ) (p : Phase) → Inv t p → pot t P p ≡ 0 → choose t a p.forest ≡ none
      at_end t P a p i z = by (choose t a p.forest) refl
        where
          by : (o : Option Chosen) → choose t a p.forest ≡ o → o ≡ none
          by none e = refl
          by (some c) e = absurd (omega (arith, (step_falls t (facts P) t.grammar.nonterms (heights t P) a p c i e).less))

  -- ---- one is picked, at x

  module _ {v : List ℕ} {x : ℕ} (P : Picks w acts 0 1 v x) (above : 0 < x) where
    module _ (C : ℕ) (t : Table) (a : ℕ) (F : Forest) (H : Held w₀ C F) (K : CanPhase acts go lens lefts m C t a F) where
      -- what is left
      abbrev L : Left w₀ w marks n C t K.known.table.passes a F
      L = T.left C t a F H K

      -- what was picked
      picked : OnePicked w v C x t a L.now.forest
      picked = (pick_picks w acts v x P C (count t) t a L.now.forest L.becomes.held (can_pick C t a F H K)).1 (λ z. omega arith)

      -- what is chosen
      abbrev c : Chosen
      c = record { rule = picked.first.rule; state = picked.state; kids = picked.kids; others = picked.others }

      -- it is the theory's choice
      chosen_is : choose t a L.now.forest ≡ some c
      chosen_is = picked.first.is

      -- its action is one more than the rule
      act_is : get_or acts (at v x 0) 0 ≡ suc c.rule
      act_is =
          ap (λ (i : ℕ). get_or acts i 0) picked.at_r
          ∙ meant_is acts picked.state c.rule (sym (K.does.same picked.state) ∙ picked.first.on)

      -- what a step asks
      can_step : (r : ℕ) → get_or acts (at v x 0) 0 ≡ suc r → CanStep go lens lefts marks m r C t L.now c
      can_step r e =
          let A = taken_rising (choose-taken t a L.now.forest c chosen_is).taken L.inv.rising in
          let r-is : r ≡ c.rule = omega (arith, act_is) in
          record {
            known = K.known;
            rule = r-is;
            listed = omega (arith, rule_in t (facts K.known.table.passes) picked.state a c.rule K.token picked.first.on);
            marked = L.marked;
            rising = rises A.below over A.kids bare;
            rising_others = A.others;
            room = omega (arith, K.room, L.within, taken_sum (λ s k. Of.size k) (choose-taken t a L.now.forest c chosen_is).taken);
          }

      -- what is left after it
      after_step : (r : ℕ) → get_or acts (at v x 0) 0 ≡ suc r → (u : List ℕ) (marks' : List Bool) → Steps v go lens lefts marks m x r u marks' →
          Left w₀ u marks' (n + 1) C t K.known.table.passes a F
      after_step r e u marks' S =
          let D = S C t L.now c picked.split (can_step r e) in
          let f = step_falls t (facts K.known.table.passes) t.grammar.nonterms (heights t K.known.table.passes) a L.now c L.inv chosen_is in
          record {
            now = reduced t L.now c;
            becomes = record {
              held = D.becomes.held;
              beyond = beyond_then w₀ w u C L.becomes.beyond (beyond_then w v u C picked.beyond D.becomes.beyond);
            };
            marked = D.marked;
            inv = f.inv;
            within = omega (arith, f.within, L.within);
            paid = omega (arith, f.less, L.paid);
            back = λ k z y. subst (λ (i : ℕ). Of.Reduces t a (fresh_phase F) i z) (omega arith) (L.back (suc k) z (Of.step c chosen_is y));
          }

    -- so `step` can be called
    pub turn_step : SomePhase w₀ acts go lens lefts m → (r : ℕ) → get_or acts (at v x 0) 0 ≡ suc r → SomeStep v go lens lefts marks m x r
    turn_step S r e = record {
      C = S.C;
      t = S.t;
      p = (L S.C S.t S.a S.F S.held S.can).now;
      c = c S.C S.t S.a S.F S.held S.can;
      split = (picked S.C S.t S.a S.F S.held S.can).split;
      can = can_step S.C S.t S.a S.F S.held S.can r e;
    }

    -- after a turn the rest of the phase is left
    pub turn_again : (r : ℕ) → get_or acts (at v x 0) 0 ≡ suc r → (u : List ℕ) (marks' : List Bool) → Steps v go lens lefts marks m x r u marks' →
        Turn w₀ acts go lens lefts m u marks' (n + 1)
    turn_again r e u marks' S = record { left = λ C t a F H K. after_step C t a F H K r e u marks' S }
