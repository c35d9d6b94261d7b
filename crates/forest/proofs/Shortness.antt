-- Whether a path is short, tree by tree. Assumes nothing.
use mathlib.Core.Path.{◌≡◌, refl, sym, ap}
use mathlib.Core.Bool.{Bool, true, false, ◌||◌}
use Prim.Native.Nat.{ℕ, zero, suc}
use Rattle.theory.specs.Forest.{Forest, nothing, tree, short}

-- laws of "or"
pub or_false : (a : Bool) → (a || false) ≡ a
or_false true = refl
or_false false = refl

pub or_assoc : (a b c : Bool) → (a || (b || c)) ≡ ((a || b) || c)
or_assoc true b c = refl
or_assoc false b c = refl

-- a path is short in the first tree or beside it
pub short-split : (d s : ℕ) (k b : Forest) → short d (tree s k b) ≡ (short d (tree s k nothing) || short d b)
unfolding short
short-split zero s k nothing = refl
short-split zero s k (tree u l c) = refl
short-split (suc d) s nothing b = refl
short-split (suc d) s (tree u l c) b = ap (λ (a : Bool). a || short (suc d) b) (sym (or_false (short d (tree u l c))))

-- at depth 0 no path is short
pub short-zero : (s : ℕ) (k : Forest) → false ≡ short 0 (tree s k nothing)
unfolding short
short-zero s k = refl

-- a root without children ends its path
pub short-leaf : (d s : ℕ) → true ≡ short (suc d) (tree s nothing nothing)
unfolding short
short-leaf d s = refl

-- else a path is short below the children
pub short-below : (d s u : ℕ) (l c : Forest) → short d (tree u l c) ≡ short (suc d) (tree s (tree u l c) nothing)
unfolding short
short-below d s u l c = sym (or_false (short d (tree u l c)))
