-- A token: the phase and the shift as the theory has them, and what follows for the tokens after it.
use mathlib.Core.Path.{◌≡◌, ◌∙◌, refl, sym, ap, subst, subst⁻¹}
use mathlib.Core.Bool.{Bool, true, false}
use mathlib.Core.List.{List, ◌∷◌}
use Prim.Native.Nat.{ℕ, suc, ◌+◌, ◌*◌, ◌≤◌}
use native.Mathlib.Omega.{arith}
use lib.Dec.{eqb}
use lib.ListN.{length}
use Rattle.theory.specs.Table.{Table, count}
use Rattle.theory.proofs.Table.Facts.{facts}
use Rattle.theory.specs.Forest as Of
use Rattle.theory.specs.Forest.{Forest, nothing, tree, shift}
use Rattle.theory.specs.Forest.Joins.{is_none}
use Rattle.theory.proofs.Bound.{size-le}
use Rattle.forest.specs.Words.{at}
use Rattle.forest.specs.Rows.{row_of}
use Rattle.forest.specs.Held.{Held, CanShift, SomeShift, Shifts}
use Rattle.forest.specs.Phases.{CanPhase, SomePhase, Phased, Phases}
use Rattle.forest.specs.Tokens.{CanTake, SomeTake, Taken, Takes}
use Rattle.forest.specs.Enough.{reduces_keeps}
use Rattle.forest.proofs.Holding.{beyond_then}
use Rattle.forest.proofs.Reading.{held_none}
use Rattle.forest.proofs.Lookups.{go_row, act_row, row_end}

module _ (acts go lens lefts : List ℕ) (m a C : ℕ) (t : Table) (F : Forest) (K : CanTake acts go lens lefts m a C t F) where
  -- the token's rows lie within the look-ups: in the actions
  acts_end : a * m + m ≤ length acts
  acts_end = row_end m a t.grammar.terms (length acts) K.token
      (subst⁻¹ (λ (k : ℕ). t.grammar.terms * k ≤ length acts) K.table.states K.rows.act.all)

  -- in the go targets
  go_end : a * m + m ≤ length go
  go_end = row_end m a (suc (t.grammar.terms + t.grammar.nonterms)) (length go) (omega (arith, K.token))
      (subst⁻¹ (λ (k : ℕ). suc (t.grammar.terms + t.grammar.nonterms) * k ≤ length go) K.table.states K.rows.goes.all)

  -- what the phase asks
  can_phase : CanPhase (row_of acts m a) go lens lefts m C t a F
  can_phase = record {
    known = record { table = K.table; goes = K.rows.goes; rules = K.rows.rules };
    does = act_row t (facts K.table.passes) acts K.rows.act m a K.table.states K.token;
    token = K.token;
    before = K.before;
    room = K.room;
  }

  -- what the shift asks
  can_shift : (w v : List ℕ) (n : ℕ) (R : Phased w v C t a F n) → CanShift (row_of go m a) C (count t) t a R.end.forest
  can_shift w v n R =
      let k = reduces_keeps t K.table.passes R.reduces K.before in
      record {
        goes = go_row t (facts K.table.passes) go K.rows.goes m a K.table.states (omega (arith, K.token));
        rising = k.inv.rising;
        room = omega (arith, K.room, k.within, size-le t (facts K.table.passes) R.end.forest k.inv.rising);
      }

module _ {w acts go lens lefts : List ℕ} {m a : ℕ} (S : SomeTake w acts go lens lefts m a) where
  -- the token's row of actions lies within them
  pub take_acts : a * m + m ≤ length acts
  take_acts = acts_end acts go lens lefts m a S.C S.t S.F S.can

  -- its row of go targets too
  pub take_go : a * m + m ≤ length go
  take_go = go_end acts go lens lefts m a S.C S.t S.F S.can

  module _ {act : List ℕ} (is-act : act ≡ row_of acts m a) where
    -- so the phase can be called
    pub take_phase : SomePhase w act go lens lefts m
    take_phase = subst⁻¹ (λ (l : List ℕ). SomePhase w l go lens lefts m) is-act
        (record { C = S.C; t = S.t; a = a; F = S.F; held = S.held; can = can_phase acts go lens lefts m a S.C S.t S.F S.can })

    module _ {v : List ℕ} {n : ℕ} (R : Phases w act go lens lefts m v n) {row : List ℕ} (is-row : row ≡ row_of go m a) where
      -- what the phase left
      left : (C : ℕ) (t : Table) (F : Forest) → Held w C F → CanTake acts go lens lefts m a C t F → Phased w v C t a F n
      left C t F H K = subst (λ (l : List ℕ). Phases w l go lens lefts m v n) is-act R C t a F H (can_phase acts go lens lefts m a C t F K)

      -- the shift after it can be called
      pub take_shift : SomeShift v row
      take_shift =
          let D = left S.C S.t S.F S.held S.can in
          subst⁻¹ (λ (l : List ℕ). SomeShift v l) is-row (record {
            C = S.C;
            m = count S.t;
            t = S.t;
            y = a;
            F = D.end.forest;
            held = D.becomes.held;
            can = can_shift acts go lens lefts m a S.C S.t S.F S.can w v n D;
          })

      -- what `next` leaves
      pub taken : {u : List ℕ} {x : ℕ} → Shifts v row u → x ≡ at u 0 1 → Takes w acts go lens lefts m a u (eqb x 0) n
      taken {u} {x} X e C t F H K =
          let D = left C t F H K in
          let B = subst (λ (l : List ℕ). Shifts v l u) is-row X C (count t) t a D.end.forest D.becomes.held
          (can_shift acts go lens lefts m a C t F K w v n D) in
          record {
            end = D.end;
            reduces = D.reduces;
            becomes = record { held = B.held; beyond = beyond_then w v u C D.becomes.beyond B.beyond };
            told = ap (λ (i : ℕ). eqb i 0) e ∙ held_none B.held;
            few = D.few;
          }

-- ---- the tail

-- a forest that is not empty has a tree
some_tree : (F : Forest) → is_none F ≡ false → (s : ℕ) × (k : Forest) × (b : Forest) × (F ≡ tree s k b)
some_tree nothing e = let z : ◌≡◌ {A = ℕ} 0 1 = cc in absurd (omega arith)
some_tree (tree s k b) e = (s, k, b, refl)

-- an empty one has none
none_tree : (F : Forest) → is_none F ≡ true → F ≡ nothing
none_tree nothing e = refl
none_tree (tree s k b) e = let z : ◌≡◌ {A = ℕ} 0 1 = cc in absurd (omega arith)

module _ {w v : List ℕ} {C : ℕ} {t : Table} {a : ℕ} {F : Forest} {told : Bool} {steps : ℕ} (T : Taken w v C t a F told steps) where
  -- no tree is left: the tail stops at the token
  pub taken_stop : told ≡ true → (rest : List ℕ) → Of.Takes t F (a ∷ rest) false 0 steps
  taken_stop e rest = Of.stop T.reduces (none_tree (shift t a T.end.forest) (sym T.told ∙ e))

  -- a tree is left: what the rest of the tail gives from there is given from here, with the token and its steps
  pub taken_on : told ≡ false → {rest : List ℕ} {b : Bool} {i j : ℕ} → Of.Takes t (shift t a T.end.forest) rest b i j →
      Of.Takes t F (a ∷ rest) b (suc i) (steps + j)
  taken_on e {rest} {b} {i} {j} x =
      let (s, k, n, q) = some_tree (shift t a T.end.forest) (sym T.told ∙ e) in
      Of.on T.reduces q (subst (λ (G : Forest). Of.Takes t G rest b i j) q x)
