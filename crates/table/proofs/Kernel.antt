-- Condition 1 from what the tests of its parts tell.
use Prim.Native.Nat.{ℕ, suc, ◌≤◌}
use native.Mathlib.Omega.{arith}
use native.Mathlib.Decide.{ℕ_discrete}
use mathlib.Core.Path.{◌≡◌, refl, sym, ap, ◌∙◌}
use mathlib.Core.List.{List, [], ◌∷◌}
use lib.ListN.{length, get_or}
use lib.Dec.{eqb}
use Rattle.theory.specs.Table.{Item, Table, state_at, Condition1}
use Rattle.table.specs.Conditions.Parts.{SomeMoved, AcceptsEnd}
use Rattle.table.specs.Places.{no_item}
use Rattle.table.specs.Tests.Tell.{Tells, tells_as, tells_eq}

-- whether a list of one member is that of a number
pub one_ahead : (l : List ℕ) → length l ≡ 1 → {a b t : ℕ} → a ≡ get_or l 0 0 → b ≡ t → Tells (eqb a b) (l ≡ t ∷ [])
one_ahead [] n e q = absurd (omega arith)
one_ahead (x ∷ y ∷ l) n e q = absurd (omega arith)
one_ahead (x ∷ []) n {a} {b} e q =
    tells_as (λ h. ap (λ (y : ℕ). y ∷ []) (sym e ∙ (h ∙ q))) (λ h. e ∙ (ap (λ (l : List ℕ). get_or l 0 0) h ∙ sym q)) (tells_eq a b)

-- state 0, which has no dot above 0
pub kernel_first : {t : Table} {s : ℕ} {a b : ℕ} → s ≡ 0 → 1 ≤ length (state_at t s).items → AcceptsEnd t s → (SomeMoved t s → ⊥) →
    a ≡ (get_or (state_at t s).items 0 no_item).rule → b ≡ length t.grammar.rules → Tells (eqb a b) (Condition1 t s)
kernel_first {t} {s} {a} {b} z k e n f q = tells_as to from (tells_eq a b)
  where
    begins : (l : List Item) → 1 ≤ length l → (more : List Item) × (l ≡ get_or l 0 no_item ∷ more)
    begins [] h = absurd (omega arith)
    begins (i ∷ l) h = (l, refl)

    still : (i : Item) → Dec (i.dot ≡ 0) → ((suc 0 ≤ i.dot) → ⊥) → i.dot ≡ 0
    still i (yes e) h = e
    still i (no k) h = absurd (h (omega arith))

    to : a ≡ b → Condition1 t s
    to h = record {
      first = λ e. let (more, c) = begins (state_at t s).items k in (get_or (state_at t s).items 0 no_item, more, c, sym f ∙ (h ∙ q));
      dots = λ e i m. still i (ℕ_discrete i.dot 0) (λ l. n (i, m, l));
      accept = e;
      kernel = λ u. absurd (u z);
    }

    from : Condition1 t s → a ≡ b
    from h =
        let (i, more, c, r) = h.first z in
        f ∙ (ap (λ (l : List Item). (get_or l 0 no_item).rule) c ∙ (r ∙ sym q))
