-- Strings that yield tokens. In a reduced grammar every right side is one, and so is every part of it.
-- By way of the symbols: a kind yields itself, a nonterminal is productive, and no right side has the end mark.
use Rattle.std.specs.Prelude.{ℕ, ◌+◌, ◌≤◌, ◌<◌, ◌≡◌, refl, List, [], ◌∷◌, ◌++◌}
use Rattle.std.proofs.Common.{arith}
use Rattle.std.proofs.Math.Decide.{dec_lt}
use mathlib.Core.List.Memᴰ.{head as Mem·head}
use mathlib.Core.List.Memᴰ.{tail as Mem·tail}
use mathlib.Core.List.{Memᴰ as Mem}
use Rattle.theory.specs.Grammar.{Rule, Grammar, WellFormed, Reduced, end, kind, start}
use Rattle.theory.proofs.Grammar.Derive.{yields_join, yields_split, derives_yields}
use Rattle.theory.specs.Grammar.Fruitful.{Fruitful}

pub fruitful_join : {g : Grammar} {a b : List ℕ} → Fruitful g a → Fruitful g b → Fruitful g (a ++ b)
fruitful_join (u, y) (v, z) = (u ++ v, yields_join y z)

pub fruitful_split : {g : Grammar} (a b : List ℕ) → Fruitful g (a ++ b) → Fruitful g a × Fruitful g b
fruitful_split a b (w, y) = let (u, v, l, r, e) = yields_split a b y in ((u, l), (v, r))

-- a string is fruitful where each of its symbols is
pub fruitful_all : {g : Grammar} (a : List ℕ) → ((x : ℕ) → Mem x a → Fruitful g (x ∷ [])) → Fruitful g a
fruitful_all [] h = ([], end)
fruitful_all (x ∷ a) h = fruitful_join (h x (Mem·head refl)) (fruitful_all a (λ y m. h y (Mem·tail m)))

module _ {g : Grammar} (W : WellFormed g) (R : Reduced g) where
  -- each symbol but the end mark is
  symbol_fruitful : (x : ℕ) → x ≤ g.terms + g.nonterms → (x ≡ g.terms → ⊥) → Fruitful g (x ∷ [])
  symbol_fruitful x n e = go (dec_lt x g.terms)
    where
      go : Dec (x < g.terms) → Fruitful g (x ∷ [])
      go (yes l) = (x ∷ [], kind l end)
      go (no l) = let (w, d, h) = R.productive x (omega arith, n) in (w, derives_yields d h)

  pub start-fruitful : Fruitful g (start g ∷ [])
  start-fruitful = symbol_fruitful (start g) (let h = W.has_start in omega arith) (λ e. omega arith)

  -- so is the right side of each rule
  pub rule_fruitful : (r : Rule) → Mem r g.rules → Fruitful g r.right
  rule_fruitful r m = fruitful_all r.right (λ x k. symbol_fruitful x (W.in_range r x m k) (W.no_end r x m k))
