-- The facts on a grammar that condition 4 asks for, where tests tell of them: so there is one proof of each, and a type
-- of the program can carry it.
use Rattle.std.specs.Prelude.{ℕ, ◌<◌, ◌≡◌, true, List, length, get_or}
use native.Mathlib.Nat.{ℕ_set}
use mathlib.Core.Bool.{Bool-set}
use Rattle.std.specs.Coded.{le_prop}
use Rattle.theory.specs.Grammar.{Grammar, Nonterm}
use Rattle.theory.specs.Table.{has}
use Rattle.lines.specs.Limits.{max_nonterms}
use Rattle.table.specs.Notions.{nonterm}
use Rattle.table.specs.Run.{productives, reachables, firsts, can_begin}
use Rattle.table.specs.Sets.{SetOf}

-- the grammar is reduced
abbrev pub ReducedTold : Grammar → Type 0
ReducedTold g = (a : ℕ) → Nonterm g a → (has (productives g) a ≡ true) × (has (reachables g) a ≡ true)

-- every row has exactly the kinds that can begin its nonterminal
pub record FirstsTold (g : Grammar) (rows : List ℕ) : Type 0 where
  pub long : length rows ≡ max_nonterms
  pub each : (k : ℕ) → k < g.nonterms →
      SetOf (λ a. can_begin (firsts g) (nonterm g k) a ≡ true) g.terms (get_or rows k 0)

pub reduced_told-prop : (g : Grammar) → IsProp (ReducedTold g)
reduced_told-prop g = Prim.hlevel (Bool-set)

pub firsts_told-prop : (g : Grammar) (rows : List ℕ) → IsProp (FirstsTold g rows)
firsts_told-prop g rows = Prim.hlevel (le_prop, ℕ_set, Bool-set)
