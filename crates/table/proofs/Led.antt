-- Condition 6: what the marks of the targets led to tell of a state.
use Prim.Native.Nat.{ℕ, ◌+◌, ◌<◌}
use native.Mathlib.Omega.{arith}
use native.Mathlib.Decide.{ℕ_discrete}
use mathlib.Core.Path.{◌≡◌, refl, sym, ap, subst, ◌∙◌}
use mathlib.Core.Bool.{Bool, true, false}
use mathlib.Core.Logic.{◌⊎◌, inl, inr, ⊎_elim}
use mathlib.Core.List.{List}
use mathlib.Core.List.{Memᴰ as Mem}
use lib.ListN.{length, get_or, set, take, replicate, length-set, length-replicate, get_or-replicate}
use lib.Seq.{get_or-set_same, get_or-set_other}
use Rattle.theory.specs.Table.{Go, Table, state_at, Condition6}
use Rattle.lines.specs.Limits.{max_states}
use Rattle.table.specs.Conditions.Parts.{LeadsTo, Marked, LedBelow}
use Rattle.table.specs.Places.{no_go}
use Rattle.table.specs.Tests.Tell.{Tells, tells_as, tells_yes, tells_no}
use Rattle.table.proofs.Order.{front_more, front_last, front_cases}

-- and one go line further
pub mark_more : (gos : List Go) (k : ℕ) {before after : List Bool} {to : ℕ} → k < length gos → to ≡ (get_or gos k no_go).to → to < max_states →
    Marked (take k gos) before after → Marked (take (k + 1) gos) before (set after to true)
mark_more gos k {before} {after} {to} l e b h = record { long = length-set after to true ∙ h.long; told = λ x w. go x w (ℕ_discrete x to) }
  where
    old : (x : ℕ) → (get_or before x false ≡ true) ⊎ LeadsTo (take k gos) x → (get_or before x false ≡ true) ⊎ LeadsTo (take (k + 1) gos) x
    old x o = ⊎_elim (λ p. inl p) (λ (g, m, q). inr (g, front_more gos k m, q)) o

    back : (x : ℕ) → (x ≡ to → ⊥) → (get_or before x false ≡ true) ⊎ LeadsTo (take (k + 1) gos) x → (get_or before x false ≡ true) ⊎ LeadsTo (take k gos) x
    back x q o =
        ⊎_elim (λ p. inl p)
        (λ (g, m, u). ⊎_elim (λ w. inr (g, w, u)) (λ w. absurd (q (sym (e ∙ (ap (λ (z : Go). z.to) (sym w) ∙ u))))) (front_cases gos k no_go m)) o

    go : (x : ℕ) → x < max_states → Dec (x ≡ to) → Tells (get_or (set after to true) x false) ((get_or before x false ≡ true) ⊎ LeadsTo (take (k + 1) gos) x)
    go x w (yes q) =
        let n = h.long in
        let r : get_or (set after to true) x false ≡ true = ap (λ (y : ℕ). get_or (set after to true) y false) q ∙ get_or-set_same after to true false (omega arith) in
        subst (λ v. Tells v ((get_or before x false ≡ true) ⊎ LeadsTo (take (k + 1) gos) x)) (sym r)
        (tells_yes (inr (get_or gos k no_go, front_last gos k no_go l, sym (q ∙ e))))
    go x w (no q) =
        subst (λ v. Tells v ((get_or before x false ≡ true) ⊎ LeadsTo (take (k + 1) gos) x)) (sym (get_or-set_other after to x true false q))
        (tells_as (old x) (back x q) (h.told x w))

-- ---- all states below one

-- the marks are those of state 0 and of the states that states below s lead to
pub record Led (t : Table) (s : ℕ) (marks : List Bool) : Type 0 where
  pub long : length marks ≡ max_states
  pub told : (x : ℕ) → x < max_states → Tells (get_or marks x false) ((x ≡ 0) ⊎ LedBelow t s x)

-- what the marks begin with: state 0 alone
abbrev pub first_marks : List Bool
first_marks = set (replicate max_states false) 0 true

-- below state 0 there is none
pub led_first : (t : Table) → Led t 0 first_marks
led_first t = record { long = length-set (replicate max_states false) 0 true ∙ length-replicate max_states false; told = λ x w. go x w (ℕ_discrete x 0) }
  where
    go : (x : ℕ) → x < max_states → Dec (x ≡ 0) → Tells (get_or first_marks x false) ((x ≡ 0) ⊎ LedBelow t 0 x)
    go x w (yes e) = rw e (tells_yes (inl refl))
    go x w (no q) =
        subst (λ v. Tells v ((x ≡ 0) ⊎ LedBelow t 0 x))
        (sym (get_or-set_other (replicate max_states false) 0 x true false q ∙ get_or-replicate max_states x false false w))
        (tells_no (λ o. ⊎_elim (λ e. q e) (λ (u, g, l, r, v). absurd (omega arith)) o))

-- and one state further
pub led_more : {t : Table} {s : ℕ} {before after : List Bool} → Led t s before → Marked (state_at t s).gos before after → Led t (s + 1) after
led_more {t} {s} {before} {after} b m = record { long = m.long; told = λ x w. tells_as (to x w) (from x w) (m.told x w) }
  where
    to : (x : ℕ) → x < max_states → (get_or before x false ≡ true) ⊎ LeadsTo (state_at t s).gos x → (x ≡ 0) ⊎ LedBelow t (s + 1) x
    to x w o =
        ⊎_elim (λ e. ⊎_elim (λ z. inl z) (λ (u, g, l, r, q). inr (u, g, omega arith, r, q)) ((b.told x w).holds e))
        (λ (g, r, q). inr (s, g, omega arith, r, q)) o

    from : (x : ℕ) → x < max_states → (x ≡ 0) ⊎ LedBelow t (s + 1) x → (get_or before x false ≡ true) ⊎ LeadsTo (state_at t s).gos x
    from x w o =
        ⊎_elim (λ z. inl ((b.told x w).shows (inl z)))
        (λ (u, g, l, r, q). which x w u g (ℕ_discrete u s) l r q) o
      where
        which : (x : ℕ) → x < max_states → (u : ℕ) (g : Go) → Dec (u ≡ s) → u < s + 1 → Mem g (state_at t u).gos → g.to ≡ x →
            (get_or before x false ≡ true) ⊎ LeadsTo (state_at t s).gos x
        which x w u g (yes e) l r q = inr (g, subst (λ v. Mem g (state_at t v).gos) e r, q)
        which x w u g (no n) l r q = inl ((b.told x w).shows (inr (u, g, omega arith, r, q)))

-- the mark of a state tells whether it keeps condition 6
pub led_tells : {t : Table} {s : ℕ} {marks : List Bool} → Led t s marks → s < max_states → Tells (get_or marks s false) (Condition6 t s)
led_tells {t} {s} h w =
    tells_as (λ o n. ⊎_elim (λ z. absurd (n z)) (λ l. l) o) (λ k. which k (ℕ_discrete s 0)) (h.told s w)
  where
    which : Condition6 t s → Dec (s ≡ 0) → (s ≡ 0) ⊎ LedBelow t s s
    which k (yes e) = inl e
    which k (no n) = inr (k n)
