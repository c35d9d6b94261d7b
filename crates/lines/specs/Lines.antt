-- The lines of a table: one automaton over lists of numbers, for the sheet and for the table as numbers.
-- It takes one line's numbers at a time, says whether they fit (else 12), and builds the theory's table as it goes.
-- The tests of one line's numbers stand in `Lines.Fits`, and are names of this file too.
use Rattle.std.specs.Prelude.{ℕ, zero, suc, ◌≡◌, Bool, true, false, List, [], ◌∷◌, ◌++◌, map, length, take, drop, leb}
use Rattle.std.proofs.Math.Option.{Option, none, some}
use Rattle.theory.specs.Grammar.{Rule, Grammar}
use Rattle.theory.specs.Table.{Item, Go, State, Table}
use Rattle.lines.specs.Limits.{max_terms, max_nonterms, max_rules, max_states, max_numbers}
pub mod Fits
pub mod Numbers
pub mod Steps
pub mod Fronts
unfoldable pub use Rattle.lines.specs.Lines.Fits.{at, counts, within, all, rises_from, rises, is_nonterm, is_symbol, is_ahead, ahead_fits, fits_one, fits_rule, fits_state, fits_item, fits_go}

-- ---- which line is due

-- the kinds of lines, and `end`: no line is due any more
pub data Due : Type 0 where
  terms nonterms rules rule states state item go end : Due

-- the key of a line, in ASCII
unfoldable pub key : Due → List ℕ
key terms = 116 ∷ 101 ∷ 114 ∷ 109 ∷ 115 ∷ []
key nonterms = 110 ∷ 111 ∷ 110 ∷ 116 ∷ 101 ∷ 114 ∷ 109 ∷ 115 ∷ []
key rules = 114 ∷ 117 ∷ 108 ∷ 101 ∷ 115 ∷ []
key rule = 114 ∷ 117 ∷ 108 ∷ 101 ∷ []
key states = 115 ∷ 116 ∷ 97 ∷ 116 ∷ 101 ∷ 115 ∷ []
key state = 115 ∷ 116 ∷ 97 ∷ 116 ∷ 101 ∷ []
key item = 105 ∷ 116 ∷ 101 ∷ 109 ∷ []
key go = 103 ∷ 111 ∷ []
key end = []

-- no line is due any more
unfoldable pub is_end : Due → Bool
is_end terms = false
is_end nonterms = false
is_end rules = false
is_end rule = false
is_end states = false
is_end state = false
is_end item = false
is_end go = false
is_end end = true

-- ---- what was accepted so far

-- which line is due, and what the lines before it said
pub record Draft : Type 0 where
  pub due : Due
  pub terms : ℕ
  pub nonterms : ℕ
  pub left_rules : ℕ
  pub rules : List Rule
  pub count : ℕ
  pub left_states : ℕ
  pub left_items : ℕ
  pub left_gos : ℕ
  -- of the state being read
  pub items : List Item
  pub gos : List Go
  -- finished
  pub states : List State

-- the grammar of what was accepted
abbrev pub grammar_of : Draft → Grammar
grammar_of d = record { terms = d.terms; nonterms = d.nonterms; rules = d.rules }

-- the table of what was accepted: the whole table once no line is due any more
abbrev pub table_of : Draft → Table
table_of d = record { grammar = grammar_of d; states = d.states }

-- a draft before the states: k rule lines are left
abbrev pub heading : Due → ℕ → ℕ → ℕ → List Rule → Draft
heading w t n k rs = record {
  due = w;
  terms = t;
  nonterms = n;
  left_rules = k;
  rules = rs;
  count = 0;
  left_states = 0;
  left_items = 0;
  left_gos = 0;
  items = [];
  gos = [];
  states = [];
}

-- a draft among the states: after g, of m states, j are left after the one being read, of which i items and l go lines are left
abbrev pub body : Due → Grammar → ℕ → ℕ → ℕ → ℕ → List Item → List Go → List State → Draft
body w g m j i l is ls ss = record {
  due = w;
  terms = g.terms;
  nonterms = g.nonterms;
  left_rules = 0;
  rules = g.rules;
  count = m;
  left_states = j;
  left_items = i;
  left_gos = l;
  items = is;
  gos = ls;
  states = ss;
}

-- nothing was accepted
abbrev pub start : Draft
start = heading terms 0 0 0 []

-- ---- what the tests of a line ask of a draft

-- how many symbols each right side has
abbrev pub rights : List Rule → List ℕ
rights rs = map (λ (r : Rule). length r.right) rs

-- the symbols of go lines
abbrev pub ons : List Go → List ℕ
ons ls = map (λ (l : Go). l.on) ls

-- the X of the go lines before, and then this X, rise
abbrev pub may_go : List Go → ℕ → Bool
may_go before x = rises (ons before ++ (x ∷ []))

-- ---- one line of each kind: what it says

-- the left side, then the right side
abbrev pub rule_of : List ℕ → Rule
rule_of xs = record { left = at xs 0; right = drop 1 xs }

-- the rule, the dot, then the look-ahead set
abbrev pub item_of : List ℕ → Item
item_of xs = record { rule = at xs 0; dot = at xs 1; ahead = drop 2 xs }

-- the symbol and the target
abbrev pub go_of : List ℕ → Go
go_of xs = record { on = at xs 0; to = at xs 1 }

-- one less
abbrev pub less : ℕ → ℕ
less zero = zero
less (suc k) = k

-- the one while some are left, and then the other
abbrev pub while_left : ℕ → Due → Due → Due
while_left zero a b = b
while_left (suc k) a b = a

-- what is due in a state of which i items and l go lines are left; with none left the state is finished
unfoldable pub settled : Grammar → ℕ → ℕ → ℕ → ℕ → List Item → List Go → List State → Draft
settled g m j zero zero is ls ss = body (while_left j state end) g m j 0 0 [] [] (ss ++ (record { items = is; gos = ls } ∷ []))
settled g m j zero (suc l) is ls ss = body go g m j 0 (suc l) is ls ss
settled g m j (suc i) l is ls ss = body item g m j (suc i) l is ls ss

-- after a rule line: another one, or the count of states
unfoldable pub after_rule : Draft → List ℕ → Draft
after_rule d xs = heading (while_left (less d.left_rules) rule states) d.terms d.nonterms (less d.left_rules) (d.rules ++ (rule_of xs ∷ []))

-- after the count of states: the first state
unfoldable pub after_states : Draft → List ℕ → Draft
after_states d xs = body state (grammar_of d) (at xs 0) (at xs 0) 0 0 [] [] []

-- after a state line: its items
unfoldable pub after_state : Draft → List ℕ → Draft
after_state d xs = body item (grammar_of d) d.count (less d.left_states) (at xs 0) (at xs 1) [] [] d.states

-- after an item line: the item is added
unfoldable pub after_item : Draft → List ℕ → Draft
unfolding settled
after_item d xs =
    settled (grammar_of d) d.count d.left_states (less d.left_items) d.left_gos (d.items ++ (item_of xs ∷ [])) d.gos d.states

-- after a go line: the go line is added
unfoldable pub after_go : Draft → List ℕ → Draft
unfolding settled
after_go d xs =
    settled (grammar_of d) d.count d.left_states d.left_items (less d.left_gos) d.items (d.gos ++ (go_of xs ∷ [])) d.states

-- ---- the automaton

-- whether a line's numbers fit
unfoldable pub fits : Draft → List ℕ → Bool
unfolding rises fits_rule fits_state fits_item fits_go
fits d xs = elim d.due [
  | terms ↦ fits_one max_terms xs
  | nonterms ↦ fits_one max_nonterms xs
  | rules ↦ fits_one max_rules xs
  | rule ↦ fits_rule d.terms d.nonterms xs
  | states ↦ fits_one max_states xs
  | state ↦ fits_state xs
  | item ↦ fits_item d.terms (rights d.rules) xs
  | go ↦ fits_go d.terms d.nonterms d.count (may_go d.gos) xs
  | end ↦ false
]

-- the draft with a line's numbers taken in
unfoldable pub next : Draft → List ℕ → Draft
unfolding after_rule after_states after_state after_item after_go
next d xs = elim d.due [
  | terms ↦ heading nonterms (at xs 0) 0 0 []
  | nonterms ↦ heading rules d.terms (at xs 0) 0 []
  | rules ↦ heading rule d.terms d.nonterms (at xs 0) []
  | rule ↦ after_rule d xs
  | states ↦ after_states d xs
  | state ↦ after_state d xs
  | item ↦ after_item d xs
  | go ↦ after_go d xs
  | end ↦ d
]

-- one line's numbers: the next draft, or none where their count or a range is wrong
unfoldable pub accept : Draft → List ℕ → Option Draft
unfolding fits next
accept d xs = elim (fits d xs) [ true ↦ some (next d xs) | false ↦ none ]

-- ---- a table as numbers: for each line the count of its numbers, then the numbers

-- what numbers, or bytes, begin with: nothing is left, a line that is not whole, or a line and what comes after it
pub data Cut : Type 0 where
  nothing short : Cut
  whole : List ℕ → List ℕ → Cut

-- the first line of the numbers
unfoldable pub cut : List ℕ → Cut
cut [] = nothing
cut (n ∷ ns) = elim (leb n (length ns)) [ true ↦ whole (take n ns) (drop n ns) | false ↦ short ]

-- too many numbers; a line that does not fit, ends early or runs on; all lines fit
pub data Lined : Type 0 where
  over : Lined
  unfit : ℕ → Lined
  fine : Draft → Lined

-- line after line; the second number is the due line's, the first is above the count of lines to come
unfoldable pub lines_from : ℕ → ℕ → Draft → List ℕ → Lined
unfolding is_end accept cut
lines_from zero line d ns = unfit line
lines_from (suc k) line d ns = elim (cut ns) [
  | nothing ↦ elim (is_end d.due) [ true ↦ fine d | false ↦ unfit line ]
  | short ↦ unfit line
  | whole xs rest ↦ elim (accept d xs) [ none ↦ unfit line | some e ↦ lines_from k (suc line) e rest ]
]

-- the lines of all numbers that are left
abbrev pub lines_at : ℕ → Draft → List ℕ → Lined
lines_at line d ns = lines_from (suc (length ns)) line d ns

-- all lines of a table
unfoldable pub read_numbers : List ℕ → Lined
unfolding lines_from
read_numbers ns = elim (leb (length ns) max_numbers) [ true ↦ lines_at 0 start ns | false ↦ over ]

-- ---- lines as numbers, and numbers as lines

-- for each line the count of its numbers, then the numbers
unfoldable pub flat : List (List ℕ) → List ℕ
flat [] = []
flat (l ∷ ls) = length l ∷ (l ++ flat ls)

-- the whole lines that the numbers begin with, at most k
unfoldable pub chopped : ℕ → List ℕ → List (List ℕ)
unfolding cut
chopped zero ns = []
chopped (suc k) ns = elim (cut ns) [ nothing ↦ [] | short ↦ [] | whole xs rest ↦ xs ∷ chopped k rest ]

-- the lines of numbers
unfoldable pub lines : List ℕ → List (List ℕ)
unfolding chopped
lines ns = chopped (length ns) ns

-- the lines, each of which fits in its turn, lead from the one draft to the other, and there no line is due any more
pub data Runs : Draft → List (List ℕ) → Draft → Type 0 where
  ends : {d : Draft} → is_end d.due ≡ true → Runs d [] d
  takes : {d e : Draft} {l : List ℕ} {ls : List (List ℕ)} → fits d l ≡ true → Runs (next d l) ls e → Runs d (l ∷ ls) e

-- the lines, each of which fits in its turn, lead from the one draft to the other
pub data Front : Draft → List (List ℕ) → Draft → Type 0 where
  here : {d : Draft} → Front d [] d
  then : {d e : Draft} {l : List ℕ} {ls : List (List ℕ)} → fits d l ≡ true → Front (next d l) ls e → Front d (l ∷ ls) e
