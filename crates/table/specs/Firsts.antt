-- First sets: row k of a list of sets has kinds that can begin the k-th nonterminal.
use Rattle.std.specs.Prelude.{ℕ, ◌+◌, ◌-◌, ◌≤◌, ◌<◌, ◌^◌, ◌≡◌, Bool, true, false, List, [], ◌∷◌, leb, length, get_or}
use Rattle.theory.specs.Grammar.{Rule, Grammar, Begins}
use Rattle.theory.specs.Table.{rule_at}
use Rattle.lines.specs.Limits.{max_nonterms}
use Rattle.table.specs.Sets.{In, SetOf}
use Rattle.table.specs.Notions.{nonterm}

-- the kinds that can begin a symbol, by the rows: of a kind the kind itself
unfoldable pub first_set : ℕ → List ℕ → ℕ → ℕ
first_set terms rows x = elim (leb x terms) [ true ↦ 2 ^ x | false ↦ get_or rows (x - terms - 1) 0 ]

-- every row has exactly the kinds that can begin its nonterminal
pub record Firsts (g : Grammar) (rows : List ℕ) : Type 0 where
  pub long : length rows ≡ max_nonterms
  pub each : (k : ℕ) → k < g.nonterms → SetOf (Begins g (nonterm g k)) g.terms (get_or rows k 0)

-- ---- growing

-- all rows together as numbers: it rises whenever a row grows
unfoldable pub total : List ℕ → ℕ
total [] = 0
total (x ∷ xs) = x + total xs

-- the rows have only kinds that can begin their nonterminals
pub record FirstPart (g : Grammar) (rows : List ℕ) : Type 0 where
  pub long : length rows ≡ max_nonterms
  pub below : (k : ℕ) → k < length rows → get_or rows k 0 < 2 ^ g.terms
  pub right : (k t : ℕ) → k < g.nonterms → In (get_or rows k 0) t → Begins g (nonterm g k) t

-- the row of the rule's left side has all that can begin its right side
abbrev pub FirstClosed : Grammar → List ℕ → Rule → Type 0
FirstClosed g rows r =
    (y : ℕ) (ys : List ℕ) → r.right ≡ y ∷ ys → (t : ℕ) → In (first_set g.terms rows y) t → In (first_set g.terms rows r.left) t

-- what some rules make of the rows: a row grew, or the rows are the same and these rules call for nothing
pub record FirstGrown (g : Grammar) (Q : ℕ → Type 0) (rows new : List ℕ) (grew : Bool) : Type 0 where
  pub part : FirstPart g new
  pub grows : total rows ≤ total new
  pub more : grew ≡ true → total rows < total new
  pub same : grew ≡ false → new ≡ rows
  pub closed : grew ≡ false → (q : ℕ) → Q q → FirstClosed g rows (rule_at g q)
