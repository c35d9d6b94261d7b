-- Sums over the trees of a forest, and what stands at every root, through joins: a sum over a join is at most the two sums together, and what
-- holds of every tree of two forests holds of every tree of their join, if that is so where two trees merge. Sizes, widths and weights are
-- such sums; order is kept likewise.
use Rattle.std.specs.Prelude.{ℕ, suc, ◌+◌, ◌*◌, ◌≤◌, ◌≡◌, refl}
use Rattle.std.proofs.Common.{arith, mul-le-mul_right, le_trans}
use Rattle.theory.specs.Forest.{Forest, nothing, tree, join, meet, size, From, over, root, Rising, bare, rises}
use Rattle.theory.proofs.Forest.Joins.{join-ind, meet-of}
use Rattle.theory.specs.Forest.Sizes.{sum, All, width, inner, lift, Parts}

-- a join is not larger than its two forests together
size-join : (f g : Forest) → size (join f g) ≤ size f + size g
unfolding size
size-join = join-ind (λ f g r. size r ≤ size f + size g)
    (λ g. omega arith)
    (λ s k b. omega arith)
    (λ s s' k b k' b' h i. omega arith)
    (λ s k b k' b' i j. let l = meet-of (λ r. size r ≤ size k + size k') k k' (join k k') (omega arith) i in omega arith)
    (λ s s' k b k' b' h i. omega arith)

pub size-meet : (k k' : Forest) → size (meet k k' (join k k')) ≤ size k + size k'
unfolding size
size-meet k k' = meet-of (λ r. size r ≤ size k + size k') k k' (join k k') (omega arith) (size-join k k')

-- The sum over a join is at most the two sums together, if that holds where two trees merge.
pub sum-join : (f : ℕ → Forest → ℕ) → ((s : ℕ) (k k' : Forest) → f s (meet k k' (join k k')) ≤ f s k + f s k') →
    (F G : Forest) → sum f (join F G) ≤ sum f F + sum f G
sum-join f merge = join-ind (λ F G r. sum f r ≤ sum f F + sum f G)
    (λ g. omega arith)
    (λ s k b. omega arith)
    (λ s s' k b k' b' h i. omega arith)
    (λ s k b k' b' i j. omega (arith, merge s k k'))
    (λ s s' k b k' b' h i. omega arith)

-- What holds of every tree of two forests holds of every tree of their join, if it holds where two merge.
pub all_join : (P : ℕ → Forest → Type 0) → ((s : ℕ) (k k' : Forest) → P s k → P s k' → P s (meet k k' (join k k'))) →
    (F G : Forest) → All P F → All P G → All P (join F G)
all_join P merge = join-ind (λ F G r. All P F → All P G → All P r)
    (λ g x y. y)
    (λ s k b x y. x)
    (λ s s' k b k' b' h i x y. (x.0, i x.1 y))
    (λ s k b k' b' i j x y. (merge s k k' x.0 y.0, j x.1 y.1))
    (λ s s' k b k' b' h i x y. (y.0, i x y.1))

pub all_map : (P Q : ℕ → Forest → Type 0) → ((s : ℕ) (k : Forest) → P s k → Q s k) → (F : Forest) → All P F → All Q F
all_map P Q f nothing x = tt
all_map P Q f (tree s k b) x = (f s k x.0, all_map P Q f b x.1)

width-join : (f g : Forest) → width (join f g) ≤ width f + width g
width-join = sum-join (λ s k. 1) (λ s k k'. omega arith)

pub width-meet : (k k' : Forest) → width (meet k k' (join k k')) ≤ width k + width k'
width-meet k k' = meet-of (λ r. width r ≤ width k + width k') k k' (join k k') (omega arith) (width-join k k')

pub inner-join : (f g : Forest) → inner (join f g) ≤ inner f + inner g
inner-join = sum-join (λ s k. size k) (λ s k k'. size-meet k k')

-- every node is a root or an inner node
pub size-split : (f : Forest) → size f ≡ inner f + width f
unfolding size
size-split nothing = refl
size-split (tree s k b) = let i = size-split b in omega arith

pub lift-join : (w : ℕ → ℕ) (f g : Forest) → lift w (join f g) ≤ lift w f + lift w g
lift-join w = sum-join (λ s k. width k * w s) (λ s k k'. omega (arith, mul-le-mul_right (w s) (width-meet k k')))

-- ---- rising

pub from_weaken : {n m : ℕ} {f : Forest} → n ≤ m → From m f → From n f
from_weaken h over = over
from_weaken h (root l) = root (le_trans h l)

-- a lower bound of the roots of both is one of the join's
pub from_join : (n : ℕ) (f g : Forest) → From n f → From n g → From n (join f g)
from_join n = join-ind (λ f g r. From n f → From n g → From n r)
    (λ g x y. y)
    (λ s k b x y. x)
    (λ s s' k b k' b' h i x y. root (low x))
    (λ s k b k' b' i j x y. root (low x))
    (λ s s' k b k' b' h i x y. root (low y))
  where
    low : {s : ℕ} {k b : Forest} → From n (tree s k b) → n ≤ s
    low (root l) = l

pub parts : {m s : ℕ} {k b : Forest} → Rising m (tree s k b) → Parts m s k b
parts (rises a c d e) = record { below = a; from = c; kids = d; beside = e }

pub rising_join : (m : ℕ) (f g : Forest) → Rising m f → Rising m g → Rising m (join f g)
rising_join m = join-ind (λ f g r. Rising m f → Rising m g → Rising m r)
    (λ g x y. y)
    (λ s k b x y. x)
    (λ s s' k b k' b' h i x y. let p = parts x in rises p.below (from_join (suc s) b (tree s' k' b') p.from (root h)) p.kids
    (i p.beside y))
    (λ s k b k' b' i j x y. let p = parts x in let q = parts y in
    rises p.below (from_join (suc s) b b' p.from q.from) (meet-of (Rising m) k k' (join k k') bare (i p.kids q.kids))
    (j p.beside q.beside))
    (λ s s' k b k' b' h i x y. let q = parts y in rises q.below (from_join (suc s') (tree s k b) b' (root h) q.from) q.kids
    (i x q.beside))
