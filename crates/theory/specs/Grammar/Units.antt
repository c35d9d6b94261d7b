-- The ways of unit rings in document 01's own words: "through rules whose right side is one nonterminal".
use Rattle.std.specs.Prelude.{ℕ, ◌≡◌, [], ◌∷◌}
use mathlib.Core.List.{Memᴰ as Mem}
use Rattle.theory.specs.Grammar.{Rule, Grammar, Nonterm}

-- a comes to b through one or more rules whose right side is one nonterminal
pub data NontermTo (g : Grammar) : ℕ → ℕ → Type 0 where
  by_rule : (r : Rule) {b : ℕ} → Mem r g.rules → r.right ≡ b ∷ [] → Nonterm g b → NontermTo g r.left b
  and_on : {a b c : ℕ} → NontermTo g a b → NontermTo g b c → NontermTo g a c
