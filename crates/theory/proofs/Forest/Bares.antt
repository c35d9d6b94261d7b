-- One-node trees: what holds of the states of those of two forests holds of those of their join, for two nodes that merge have none below
-- only where one of them has none. Also the states of the one-node trees, as a test.
use Rattle.std.specs.Prelude.{ℕ, ◌||◌, ◌&&◌, ◌⊎◌, eqb, T}
use Rattle.std.proofs.Common.{subst, inl, inr, ⊎_elim, eqb→eq}
use Rattle.std.proofs.Math.Dec.{eqb_refl}
use Rattle.theory.proofs.Basics.{is_true_or, is_true_and, is_true_both, is_true_left, is_true_right}
use Rattle.theory.specs.Forest.{Forest, nothing, tree, join, meet}
use Rattle.theory.specs.Forest.Joins.{is_none}
use Rattle.theory.proofs.Forest.Joins.{join-none}
use Rattle.theory.proofs.Forest.Sizes.{all_join, all_map}
use Rattle.theory.specs.Forest.Bares.{Bares, bare_at}

meet-none : (k k' : Forest) → T (is_none (meet k k' (join k k'))) → T (is_none k) ⊎ T (is_none k')
unfolding meet
meet-none nothing k' x = inl tt
meet-none (tree s a b) nothing x = inr tt
meet-none (tree s a b) (tree s' a' b') x = inl (join-none (tree s a b) (tree s' a' b') x)

-- a one-node tree of a join is one of either forest
pub bares_join : (X : ℕ → Type 0) (F G : Forest) → Bares X F → Bares X G → Bares X (join F G)
bares_join X = all_join (λ s k. T (is_none k) → X s) (λ s k k' p q x. ⊎_elim p q (meet-none k k' x))

-- what holds of the states of the one-node trees holds of a state that is one
pub at_bare : (X : ℕ → Type 0) (F : Forest) (u : ℕ) → Bares X F → T (bare_at F u) → X u
unfolding bare_at
at_bare X nothing u x t = absurd t
at_bare X (tree s k b) u x t =
    ⊎_elim (λ e. let q = is_true_and (is_none k) (eqb s u) e in subst X (eqb→eq s u q.1) (x.0 q.0)) (λ e. at_bare X b u x.1 e)
    (is_true_or (is_none k && eqb s u) (bare_at b u) t)

pub bares_self : (F : Forest) → Bares (λ u. T (bare_at F u)) F
unfolding bare_at
bares_self nothing = tt
bares_self (tree s k b) = (
  (λ n. is_true_left (is_none k && eqb s s) (bare_at b s) (is_true_both (is_none k) (eqb s s) n (eqb_refl s))),
  all_map (λ u x. T (is_none x) → T (bare_at b u)) (λ u x. T (is_none x) → T ((is_none k && eqb s u) || bare_at b u))
      (λ u x f n. is_true_right (is_none k && eqb s u) (bare_at b u) (f n)) b (bares_self b),
)
