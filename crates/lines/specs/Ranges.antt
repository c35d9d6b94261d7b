-- What the automaton accepts, said of the table instead of line after line: the lines of a table, and the ranges of document 01.
use Rattle.std.specs.Prelude.{ℕ, ◌+◌, ◌≤◌, ◌<◌, ◌≡◌, List, [], ◌∷◌, ◌++◌, map, length}
use Rattle.theory.specs.Grammar.{Rule, Grammar, Nonterm}
use Rattle.theory.specs.Table.{Item, Go, State, Table, rule_at, count}
use Rattle.lines.specs.Basics.{All}
use Rattle.lines.specs.Limits.{max_terms, max_nonterms, max_rules, max_right, max_states, max_items, max_gos, max_numbers}
use Rattle.lines.specs.Lines.{Due, Draft, body, ons, flat}
pub mod Tests
pub mod Exact
pub mod Fitting
pub mod Small
pub mod Bounds

-- ---- the lines of a table

-- rule=A X1 ..
abbrev pub rule_line : Rule → List ℕ
rule_line r = r.left ∷ r.right

-- item=r d t1 ..
abbrev pub item_line : Item → List ℕ
item_line i = i.rule ∷ i.dot ∷ i.ahead

-- go=X s
abbrev pub go_line : Go → List ℕ
go_line l = l.on ∷ l.to ∷ []

-- state=K G
abbrev pub state_first : State → List ℕ
state_first s = length s.items ∷ length s.gos ∷ []

-- the lines of states: state=K G, K items, G go lines
abbrev pub state_lines : List State → List (List ℕ)
state_lines [] = []
state_lines (s ∷ ss) = state_first s ∷ (map item_line s.items ++ (map go_line s.gos ++ state_lines ss))

-- the lines of a table
abbrev pub lines_of : Table → List (List ℕ)
lines_of t =
    (t.grammar.terms ∷ []) ∷ (t.grammar.nonterms ∷ []) ∷ (length t.grammar.rules ∷ []) ∷
    (map rule_line t.grammar.rules ++ ((count t ∷ []) ∷ state_lines t.states))

-- the draft that all lines of a table lead to
abbrev pub finished : Table → Draft
finished t = body Due.end t.grammar (count t) 0 0 0 [] [] t.states

-- ---- the ranges

-- the number is from lo to hi
abbrev pub Within : ℕ → ℕ → ℕ → Type 0
Within lo hi x = (lo ≤ x) × (x ≤ hi)

-- each member is above the one before it, the first above x
abbrev pub RisingFrom : ℕ → List ℕ → Type 0
RisingFrom x [] = Unit
RisingFrom x (y ∷ ys) = (x < y) × RisingFrom y ys

-- each member is above the one before it
abbrev pub Rising : List ℕ → Type 0
Rising [] = Unit
Rising (x ∷ xs) = RisingFrom x xs

-- a kind or a nonterminal, not the end mark
abbrev pub Symbol : Grammar → ℕ → Type 0
Symbol g x = (x ≤ g.terms + g.nonterms) × (x ≡ g.terms → ⊥)

-- "1 to 8 symbols on a right side. A left side is a nonterminal; a right side never has the end mark."
pub record RuleIn (g : Grammar) (r : Rule) : Type 0 where
  pub left_in : Nonterm g r.left
  pub right_count : Within 1 max_right (length r.right)
  pub right_in : All (Symbol g) r.right

-- "r is 0..R, d is 0..length of the right side. A look-ahead set has at least one member, each 0..T, strictly rising."
pub record ItemIn (g : Grammar) (i : Item) : Type 0 where
  pub rule_in : i.rule ≤ length g.rules
  pub dot_in : i.dot ≤ length (rule_at g i.rule).right
  pub some_ahead : 1 ≤ length i.ahead
  pub ahead_in : All (λ a. a ≤ g.terms) i.ahead
  pub ahead_rises : Rising i.ahead

-- "In a go line X is a symbol but not the end mark, and s is below m"
pub record GoIn (g : Grammar) (m : ℕ) (l : Go) : Type 0 where
  pub on_in : Symbol g l.on
  pub to_in : l.to < m

-- "K 1..200, G 0..96"; "the X of one state rise strictly"
pub record StateIn (g : Grammar) (m : ℕ) (s : State) : Type 0 where
  pub item_count : Within 1 max_items (length s.items)
  pub go_count : Within 0 max_gos (length s.gos)
  pub items_in : All (ItemIn g) s.items
  pub gos_in : All (GoIn g m) s.gos
  pub gos_rise : Rising (ons s.gos)

-- "T 1..63, N 1..32, R 1..64, m 1..128", and each rule and state
pub record InRange (t : Table) : Type 0 where
  pub term_count : Within 1 max_terms t.grammar.terms
  pub nonterm_count : Within 1 max_nonterms t.grammar.nonterms
  pub rule_count : Within 1 max_rules (length t.grammar.rules)
  pub state_count : Within 1 max_states (count t)
  pub rules_in : All (RuleIn t.grammar) t.grammar.rules
  pub states_in : All (StateIn t.grammar (count t)) t.states

-- the numbers are those of the table, which is within the ranges
pub record FitLines (ns : List ℕ) (t : Table) : Type 0 where
  pub in_range : InRange t
  pub its_numbers : ns ≡ flat (lines_of t)
  pub not_over : length ns ≤ max_numbers
