-- What the tests of a state's parts tell, for conditions 1, 3, 6 and 7.
use Rattle.std.specs.Prelude.{ℕ, suc, ◌+◌, ◌-◌, ◌≤◌, ◌<◌, ◌^◌, ◌≡◌, Bool, true, false, ◌⊎◌, leb}
use Rattle.std.specs.Prelude.{List, [], ◌∷◌, length, get_or, MatchBool}
use mathlib.Core.List.{Memᴰ as Mem}
use Rattle.std.specs.Int.Bits.{bit_or}
use Rattle.theory.specs.Grammar.{Grammar}
use Rattle.theory.specs.Table.{Item, Go, Table, state_at, rule_at, InState, After}
use Rattle.lines.specs.Limits.{max_states}
use Rattle.table.specs.Aheads.{place_of}
use Rattle.table.specs.Places.{table_in}
use Rattle.table.specs.Sets.{In}
use Rattle.table.specs.Tests.Tell.{Tells}

-- ---- condition 1

-- a test of a state's items by their places: one passes, or each fails
abbrev pub SomePasses : List ℕ → List ℕ → ℕ → (ℕ → Bool → Type 0) → Bool → Type 0
SomePasses ns places s gives found = MatchBool found
    ((k : ℕ) × (k < length (state_at (table_in ns) s).items) × gives (place_of ns places s k) true)
    ((k : ℕ) → k < length (state_at (table_in ns) s).items → gives (place_of ns places s k) false)

-- some item of the state has a dot above 0
abbrev pub SomeMoved : Table → ℕ → Type 0
SomeMoved t s = (i : Item) × InState t s i × (suc 0 ≤ i.dot)

-- where the accept rule stands in an item of the state, the set is the end mark alone
abbrev pub AcceptsEnd : Table → ℕ → Type 0
AcceptsEnd t s = (i : Item) → InState t s i → i.rule ≡ length t.grammar.rules → i.ahead ≡ t.grammar.terms ∷ []

-- ---- condition 3; nonterminals count from 0 in a set

-- the k-th nonterminal stands after the dot of some item
abbrev pub AfterSome : Grammar → List Item → ℕ → Type 0
AfterSome g is k = (i : Item) × Mem i is × After g i (suc g.terms + k)

-- the left side of the rule is a nonterminal of the set
abbrev pub LeftIn : Grammar → ℕ → ℕ → Type 0
LeftIn g set r = (r < length g.rules) × In set ((rule_at g r).left - suc g.terms)

-- the k-th item of state s has a dot above 0, is state 0's first, or has a left side in the set
abbrev pub CalledFor : Grammar → ℕ → ℕ → ℕ → Item → Type 0
CalledFor g set s k i = i.dot ≡ 0 → ((s ≡ 0) × (k ≡ 0)) ⊎ LeftIn g set i.rule

-- the set of nonterminals, and the symbol if it is one
unfoldable pub with_symbol : ℕ → ℕ → ℕ → ℕ
with_symbol terms set x = elim (leb x terms) [ true ↦ set | false ↦ bit_or set (2 ^ (x - terms - 1)) ]

-- ---- condition 6

-- some go line leads to the state
abbrev pub LeadsTo : List Go → ℕ → Type 0
LeadsTo gos x = (g : Go) × Mem g gos × (g.to ≡ x)

-- the marks of all states after those of the go lines' targets were added
pub record Marked (gos : List Go) (before after : List Bool) : Type 0 where
  pub long : length after ≡ max_states
  pub told : (x : ℕ) → x < max_states → Tells (get_or after x false) ((get_or before x false ≡ true) ⊎ LeadsTo gos x)

-- a go line of a state below s leads to the state
abbrev pub LedBelow : Table → ℕ → ℕ → Type 0
LedBelow t s x = (u : ℕ) × (g : Go) × (u < s) × Mem g (state_at t u).gos × (g.to ≡ x)

-- ---- condition 7

-- no go line is on a kind of the set
abbrev pub NoShift : ℕ → List Go → ℕ → Type 0
NoShift terms gos set = (g : Go) → Mem g gos → g.on < terms → In set g.on → ⊥
