-- A forest without one of its trees, as the chosen one: sums, statements of every tree and order split into that tree's and the others'.
-- The chosen root's tree is one that can be taken out so, and its state reduces by the chosen rule.
use Rattle.std.specs.Prelude.{ℕ, suc, ◌+◌, ◌≤◌, ◌≡◌, refl}
use Rattle.std.proofs.Common.{subst, arith}
use Rattle.std.proofs.Math.Option.{Option, none, some, some-injective, none-ne-some}
use Rattle.theory.specs.Table.{Table, reduce_on}
use Rattle.theory.specs.Forest.{Forest, nothing, tree, Chosen, chosen, choose, From, root, Rising, rises}
use Rattle.theory.specs.Forest.Sizes.{sum, All}
use Rattle.theory.proofs.Forest.Sizes.{all_map, from_weaken, parts}
use Rattle.theory.proofs.Forest.Counts.{from_all}
use Rattle.theory.specs.Forest.Taken.{Taken, here, later, Choice, Apart}

pub choose-taken : (t : Table) (a : ℕ) (F : Forest) (c : Chosen) → choose t a F ≡ some c → Choice t a F c
unfolding choose chosen
choose-taken t a nothing c e = absurd (none-ne-some c e)
choose-taken t a (tree s k b) c e = go (reduce_on t s a) refl (choose t a b) (λ c' q. choose-taken t a b c' q) e
  where
    go : (o : Option ℕ) → reduce_on t s a ≡ o → (l : Option Chosen) → ((c' : Chosen) → l ≡ some c' → Choice t a b c') →
        chosen s k b o l ≡ some c → Choice t a (tree s k b) c
    go (some r) q l ih e = subst (Choice t a (tree s k b)) (some-injective _ c e) (record { taken = here; reduces = q })
    go none q none ih e = absurd (none-ne-some c e)
    go none q (some c') ih e = let i = ih c' refl in subst (Choice t a (tree s k b)) (some-injective _ c e)
        (record { taken = later i.taken; reduces = i.reduces })

pub taken_sum : (f : ℕ → Forest → ℕ) {F k o : Forest} {s : ℕ} → Taken F s k o → sum f F ≡ f s k + sum f o
taken_sum f here = refl
taken_sum f (later x) = let i = taken_sum f x in omega arith

pub taken_all : (P : ℕ → Forest → Type 0) {F k o : Forest} {s : ℕ} → Taken F s k o → All P F → P s k × All P o
taken_all P here y = (y.0, y.1)
taken_all P (later x) y = let i = taken_all P x y.1 in (i.0, (y.0, i.1))

taken_from : {m n s : ℕ} {F k o : Forest} → Taken F s k o → Rising m F → From n F → From n o
taken_from here (rises a f d e) (root l) = from_weaken (omega arith) f
taken_from (later x) (rises a f d e) (root l) = root l

-- the chosen tree and the others rise, and no other has its state
pub taken_rising : {m s : ℕ} {F k o : Forest} → Taken F s k o → Rising m F → Apart m s k o
taken_rising (here {s = s} {b = b}) r =
    let p = parts r in
    record {
      below = p.below;
      kids = p.kids;
      others = p.beside;
      distinct = all_map (λ u x. suc s ≤ u) (λ u x. u ≡ s → ⊥) (λ u x l q. omega arith) b (from_all p.from p.beside);
    }
taken_rising (later {s = h} x) r =
    let p = parts r in
    let i = taken_rising x p.beside in
    let l = (taken_all (λ u x. suc h ≤ u) x (from_all p.from p.beside)).0 in
    record {
      below = i.below;
      kids = i.kids;
      others = rises p.below (taken_from x p.beside p.from) p.kids i.others;
      distinct = ((λ q. omega arith), i.distinct);
    }
