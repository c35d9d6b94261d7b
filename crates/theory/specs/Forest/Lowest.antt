-- The states of roots. That the chosen root is the lowest is in proofs/.
use Rattle.std.specs.Prelude.{ℕ, ◌≡◌, ◌⊎◌}
use Rattle.theory.specs.Forest.{Forest, nothing, tree}

-- the state is that of a root
abbrev pub Root : ℕ → Forest → Type 0
Root s nothing = ⊥
Root s (tree u kids beside) = (s ≡ u) ⊎ Root s beside
