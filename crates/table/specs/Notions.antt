-- Sets of a grammar's nonterminals that grow by rules: the productive ones, the reachable ones, and those that come to a nonterminal through
-- rules whose right side is one symbol. The k-th nonterminal is in a set where bit k is 1.
use Rattle.std.specs.Prelude.{ℕ, ◌+◌, ◌-◌, ◌≤◌, ◌<◌, ◌^◌, ◌≡◌, Bool, true, false, ◌⊎◌, List, [], ◌∷◌, eqb, ltb, leb}
use mathlib.Core.List.{Memᴰ as Mem}
use Rattle.std.specs.Int.Bits.{bit_or}
use Rattle.theory.specs.Grammar.{Rule, Grammar, Nonterm, Productive, Reachable, UnitTo}
use Rattle.theory.specs.Table.{rule_at}
use Rattle.table.specs.Sets.{bit, In}
use Rattle.table.specs.declared.Notion.{Notion}

-- the symbol of the k-th nonterminal
abbrev pub nonterm : Grammar → ℕ → ℕ
nonterm g k = g.terms + 1 + k

-- what a notion says of a symbol
abbrev pub Means : Grammar → Notion → ℕ → Type 0
Means g Notion.Productive a = Productive g a
Means g Notion.Reachable a = Reachable g a
Means g (Notion.ComesTo c) a = UnitTo g a c

-- ---- symbols and sets

-- whether a symbol is a nonterminal in the set
unfoldable pub member : ℕ → ℕ → ℕ → Bool
member terms set x = elim (leb x terms) [ true ↦ false | false ↦ eqb (bit set (x - terms - 1)) 1 ]

-- whether a symbol is a kind, or a nonterminal in the set
unfoldable pub made : ℕ → ℕ → ℕ → Bool
unfolding member
made terms set x = elim (ltb x terms) [ true ↦ true | false ↦ member terms set x ]

-- the set and a nonterminal
unfoldable pub with : ℕ → ℕ → ℕ → ℕ
with terms set x = bit_or set (2 ^ (x - terms - 1))

-- all symbols are kinds, or nonterminals in the set
abbrev pub Made : Grammar → ℕ → List ℕ → Type 0
Made g set right = (x : ℕ) → Mem x right → made g.terms set x ≡ true

-- ---- growing

-- what a set begins with: the reachable ones with the start
abbrev pub Begun : Notion → ℕ → Type 0
Begun Notion.Productive set = Unit
Begun Notion.Reachable set = In set 0
Begun (Notion.ComesTo c) set = Unit

-- the set has only nonterminals of which the notion holds
pub record Part (g : Grammar) (n : Notion) (set : ℕ) : Type 0 where
  pub below : set < 2 ^ g.nonterms
  pub right : (k : ℕ) → In set k → Means g n (nonterm g k)
  pub begun : Begun n set

-- the rule calls for nothing that is not in the set
abbrev pub Closed : Grammar → Notion → ℕ → Rule → Type 0
Closed g Notion.Productive set r = Made g set r.right → member g.terms set r.left ≡ true
Closed g Notion.Reachable set r = member g.terms set r.left ≡ true → (x : ℕ) → Mem x r.right → Nonterm g x → member g.terms set x ≡ true
Closed g (Notion.ComesTo c) set r =
    (b : ℕ) → r.right ≡ b ∷ [] → (b ≡ c) ⊎ (member g.terms set b ≡ true) → member g.terms set r.left ≡ true

-- what a rule makes of a set: a set that is no smaller, and where nothing was added the rule called for nothing
pub record Grows (g : Grammar) (n : Notion) (r : Rule) (set new : ℕ) : Type 0 where
  pub part : Part g n new
  pub grows : set ≤ new
  pub closed : new ≡ set → Closed g n set r

-- what the first n rules make of a set
pub record GrownBy (g : Grammar) (n : Notion) (rules set new : ℕ) : Type 0 where
  pub part : Part g n new
  pub grows : set ≤ new
  pub closed : new ≡ set → (q : ℕ) → q < rules → Closed g n set (rule_at g q)

-- what the set of a notion begins with
abbrev pub first_of : Notion → ℕ
first_of Notion.Productive = 0
first_of Notion.Reachable = 1
first_of (Notion.ComesTo c) = 0

-- the notion is asked of a nonterminal
abbrev pub Asked : Grammar → Notion → Type 0
Asked g Notion.Productive = Unit
Asked g Notion.Reachable = Unit
Asked g (Notion.ComesTo c) = Nonterm g c
