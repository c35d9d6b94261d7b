-- The potential of a reduce phase and what holds throughout it (`Inv`). The potential is the cost of the forest, in which each inner node
-- counts the most and each child of a root counts its root's height, and the number of states that may still come up as one-node trees
-- (`pending`): those that stand as such, and those that a long reduction may still add.
use Rattle.std.specs.Prelude.{ℕ, ◌+◌, ◌*◌, ◌≤◌, ◌≡◌, Bool, not, ◌||◌, ◌&&◌, List, ◌∷◌, leb, T}
use Rattle.std.proofs.Common.{T_not, le→leb, leb→le, arith, mul-le-mul_left, mul-le-mul_right}
use Rattle.std.proofs.Math.Dec.{not_T}
use Rattle.theory.proofs.Basics.{is_true_and, is_true_both}
use Rattle.theory.specs.Table.{Table, count, has}
use Rattle.theory.proofs.Table.Access.{acc}
use Rattle.theory.proofs.Table.Actions.{has-later}
use Rattle.theory.specs.Forest.{Forest, nothing, tree, size, join, Phase, Rising}
use Rattle.theory.specs.Forest.Sizes.{width, inner, lift}
use Rattle.theory.proofs.Forest.Sizes.{sum-join, size-meet, width-meet}
use Rattle.theory.specs.Forest.Counts.{tally}
use Rattle.theory.proofs.Forest.Counts.{tally-le}
use Rattle.theory.specs.Forest.Bares.{Bares, bare_at}
use Rattle.theory.specs.Bound.Potential.{cost}

pub cost-join : (C : ℕ) (w : ℕ → ℕ) (f g : Forest) → cost C w (join f g) ≤ cost C w f + cost C w g
cost-join C w = sum-join (λ s k. C * size k + width k * w s)
    (λ s k k'. omega (arith, mul-le-mul_left C (size-meet k k'), mul-le-mul_right (w s) (width-meet k k')))

pub cost-split : (C : ℕ) (w : ℕ → ℕ) (f : Forest) → cost C w f ≡ C * inner f + lift w f
cost-split C w nothing = omega arith
cost-split C w (tree s k b) = let i = cost-split C w b in omega arith

-- the state is entered by no kind, and by no symbol to which a long reduction was made
unfoldable pub is_open : Table → List ℕ → ℕ → Bool
is_open t marked s = leb t.grammar.terms (acc t s) && not (has marked (acc t s))

-- a state that is a one-node tree or open may still give a step that lowers nothing else
unfoldable pub pending : Table → Phase → ℕ
pending t p = tally (count t) (λ s. bare_at p.forest s || is_open t p.marked s)

pub pending-le : (t : Table) (p : Phase) → pending t p ≤ count t
unfolding pending
pending-le t p = tally-le (count t) _

-- what holds in a reduce phase: the forest rises, and no one-node tree's state is open
pub record Inv (t : Table) (p : Phase) : Type 0 where
  pub rising : Rising (count t) p.forest
  pub closed : Bares (λ s. T (is_open t p.marked s) → ⊥) p.forest

-- ---- marks

pub open_in : (t : Table) (M : List ℕ) (s : ℕ) → t.grammar.terms ≤ acc t s → T (not (has M (acc t s))) → T (is_open t M s)
unfolding is_open
open_in t M s l n = is_true_both (leb t.grammar.terms (acc t s)) (not (has M (acc t s))) (le→leb t.grammar.terms (acc t s) l) n

pub open_high : (t : Table) (M : List ℕ) (s : ℕ) → T (is_open t M s) → t.grammar.terms ≤ acc t s
unfolding is_open
open_high t M s x = leb→le t.grammar.terms (acc t s) (is_true_and (leb t.grammar.terms (acc t s)) (not (has M (acc t s))) x).0

pub open_unmarked : (t : Table) (M : List ℕ) (s : ℕ) → T (is_open t M s) → T (has M (acc t s)) → ⊥
unfolding is_open
open_unmarked t M s x h = T_not (has M (acc t s)) (is_true_and (leb t.grammar.terms (acc t s)) (not (has M (acc t s))) x).1 h

-- with one more mark fewer states are open
pub open_less : (t : Table) (M : List ℕ) (a s : ℕ) → T (is_open t (a ∷ M) s) → T (is_open t M s)
open_less t M a s x =
    open_in t M s (open_high t (a ∷ M) s x) (not_T (has M (acc t s)) (λ h. open_unmarked t (a ∷ M) s x (has-later a (acc t s) M h)))
