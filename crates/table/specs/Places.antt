-- Where the parts of a table stand among its numbers: the table of the numbers, and what stands at the place of a rule's, an item's, a go
-- line's and a state's line. A place is that of a line's count; the line's numbers stand after it.
use Rattle.std.specs.Prelude.{ℕ, zero, suc, ◌+◌, ◌*◌, ◌<◌, ◌≡◌, List, [], ◌∷◌, length, get_or}
use Rattle.theory.specs.Grammar.{Rule, Grammar}
use Rattle.theory.specs.Table.{Item, Go, State, Table, no_state, rule_at, count}
use Rattle.lines.specs.Lines.{Lined, read_numbers, table_of}
use Rattle.lines.specs.Ranges.{InRange}
use Rattle.table.specs.declared.Sizes.{Sizes}
pub mod Step

-- ---- the table of numbers

-- a table of nothing: what stands for numbers whose lines do not fit
abbrev pub no_table : Table
no_table = record { grammar = record { terms = 0; nonterms = 0; rules = [] }; states = [] }

-- the table that a reading found
abbrev pub found : Lined → Table
found Lined.over = no_table
found (Lined.unfit n) = no_table
found (Lined.fine d) = table_of d

-- the table of the numbers
unfoldable pub table_in : List ℕ → Table
table_in ns = found (read_numbers ns)

-- the grammar of the numbers
abbrev pub grammar_in : List ℕ → Grammar
grammar_in ns = (table_in ns).grammar

-- ---- one line

-- at place p stands a line: the count of its numbers, then the numbers
pub record LineAt (ns : List ℕ) (p : ℕ) (l : List ℕ) : Type 0 where
  pub inside : p + length l < length ns
  pub counted : get_or ns p 0 ≡ length l
  pub numbers : (j : ℕ) → j < length l → get_or ns (p + 1 + j) 0 ≡ get_or l j 0

-- at place p stands the line rule=A X1 ..
pub record RuleAt (ns : List ℕ) (p : ℕ) (r : Rule) : Type 0 where
  pub inside : p + 1 + length r.right < length ns
  pub counted : get_or ns p 0 ≡ 1 + length r.right
  pub left_at : get_or ns (p + 1) 0 ≡ r.left
  pub right_at : (j : ℕ) → j < length r.right → get_or ns (p + 2 + j) 0 ≡ get_or r.right j 0

-- at place p stands the line item=r d t1 ..
pub record ItemAt (ns : List ℕ) (p : ℕ) (i : Item) : Type 0 where
  pub inside : p + 2 + length i.ahead < length ns
  pub counted : get_or ns p 0 ≡ 2 + length i.ahead
  pub at_rule : get_or ns (p + 1) 0 ≡ i.rule
  pub dot_at : get_or ns (p + 2) 0 ≡ i.dot
  pub at_ahead : (j : ℕ) → j < length i.ahead → get_or ns (p + 3 + j) 0 ≡ get_or i.ahead j 0

-- at place p stands the line go=X s
pub record GoAt (ns : List ℕ) (p : ℕ) (l : Go) : Type 0 where
  pub inside : p + 2 < length ns
  pub counted : get_or ns p 0 ≡ 2
  pub on_at : get_or ns (p + 1) 0 ≡ l.on
  pub to_at : get_or ns (p + 2) 0 ≡ l.to

-- ---- lines one after the other

-- what stands at a number that is no item's
abbrev pub no_item : Item
no_item = record { rule = 0; dot = 0; ahead = [] }

-- what stands at a number that is no go line's
abbrev pub no_go : Go
no_go = record { on = 0; to = 0 }

-- the place after an item line at p
abbrev pub after_item : ℕ → Item → ℕ
after_item p i = p + 3 + length i.ahead

-- the place of the k-th of items whose lines stand one after the other from p on; with k their count the place after the last
unfoldable pub item_place : ℕ → List Item → ℕ → ℕ
item_place p [] k = p
item_place p (i ∷ is) zero = p
item_place p (i ∷ is) (suc k) = item_place (after_item p i) is k

-- the lines of the items stand one after the other from p on
abbrev pub ItemsAt : List ℕ → ℕ → List Item → Type 0
ItemsAt ns p is = (k : ℕ) → k < length is → ItemAt ns (item_place p is k) (get_or is k no_item)

-- the lines of the go lines stand one after the other from p on, three numbers each
abbrev pub GosAt : List ℕ → ℕ → List Go → Type 0
GosAt ns p ls = (k : ℕ) → k < length ls → GoAt ns (p + 3 * k) (get_or ls k no_go)

-- ---- states

-- the place of the first go line of a state whose line stands at p
abbrev pub gos_place : ℕ → State → ℕ
gos_place p s = item_place (p + 3) s.items (length s.items)

-- the place after all lines of a state whose line stands at p
abbrev pub after_state : ℕ → State → ℕ
after_state p s = gos_place p s + 3 * length s.gos

-- at place p stands the line state=K G, then its items, then its go lines
pub record StateAt (ns : List ℕ) (p : ℕ) (s : State) : Type 0 where
  pub inside : p + 2 < length ns
  pub counted : get_or ns p 0 ≡ 2
  pub items_counted : get_or ns (p + 1) 0 ≡ length s.items
  pub gos_counted : get_or ns (p + 2) 0 ≡ length s.gos
  pub items_at : ItemsAt ns (p + 3) s.items
  pub gos_at : GosAt ns (gos_place p s) s.gos

-- ---- all rules, all states

-- each rule's line stands at its place
abbrev pub RulesAt : List ℕ → List ℕ → Grammar → Type 0
RulesAt ns places g = (r : ℕ) → r < length g.rules → RuleAt ns (get_or places r 0) (rule_at g r)

-- the lines of states stand at their places, each one's up to the next one's, and the last one's up to an end
pub record StatesTo (ns places : List ℕ) (ss : List State) (end : ℕ) : Type 0 where
  pub each : (s : ℕ) → s < length ss → StateAt ns (get_or places s 0) (get_or ss s no_state)
  pub next : (s : ℕ) → suc s < length ss → after_state (get_or places s 0) (get_or ss s no_state) ≡ get_or places (suc s) 0
  pub last : (s : ℕ) → suc s ≡ length ss → after_state (get_or places s 0) (get_or ss s no_state) ≡ end

-- each state's lines stand at its place, and the last one's go up to the end of the numbers
abbrev pub StatesAt : List ℕ → List ℕ → Table → Type 0
StatesAt ns places t = StatesTo ns places t.states (length ns)

-- ---- what the functions over the numbers ask for

-- the numbers are those of a table within the ranges, of these sizes, whose rules stand at these places
pub record Held (ns places : List ℕ) (z : Sizes) : Type 0 where
  pub in_range : InRange (table_in ns)
  pub terms_are : z.terms ≡ (grammar_in ns).terms
  pub nonterms_are : z.nonterms ≡ (grammar_in ns).nonterms
  pub rules_are : z.rules ≡ length (grammar_in ns).rules
  pub states_are : z.states ≡ count (table_in ns)
  pub rules_at : RulesAt ns places (grammar_in ns)
