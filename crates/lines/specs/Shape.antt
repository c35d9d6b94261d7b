-- What the code does with a line: the limits as values, the shape of what was accepted, and what one line's numbers make of it.
-- A shape keeps of the automaton's draft (`Lines`) only what the tests of the next lines ask; `Shape.Shaped` proves that it is enough.
use Rattle.std.specs.Prelude.{ℕ, zero, suc, Bool, true, false, ◌&&◌, List, length, take, set, ltb, leb, Option, Some, None}
use Rattle.lines.specs.Limits.{max_terms, max_nonterms, max_rules, max_right, max_states, max_items, max_gos, max_numbers, max_bytes, max_tail, stride, max_line}
use Rattle.lines.specs.Lines.Fits.{at, fits_one, fits_rule, fits_state, fits_item, fits_go}
use Rattle.lines.specs.Lines.{less}
use Rattle.lines.specs.declared.shape.Limits.{Limits}
use Rattle.lines.specs.declared.shape.Due.{Due}
use Rattle.lines.specs.declared.shape.Due.TheVariants.{Terms, Nonterms, Rules, Rule, States, State, Item, Go, End}
use Rattle.lines.specs.declared.shape.Shape.{Shape}
pub mod Accepting
pub mod Shaped

-- the limits, all at once
abbrev pub limits : Limits
limits = record {
  terms = max_terms;
  nonterms = max_nonterms;
  rules = max_rules;
  right = max_right;
  states = max_states;
  items = max_items;
  gos = max_gos;
  bytes = max_bytes;
  numbers = max_numbers;
  tail = max_tail;
  stride = stride;
  line = max_line;
}

-- ---- shapes

-- a shape before the states: r rules were accepted, and k are left
abbrev pub heading_shape : Due → ℕ → ℕ → ℕ → ℕ → Shape
heading_shape w t n r k = record {
  due = w;
  terms = t;
  nonterms = n;
  rules = r;
  rules_left = k;
  states = 0;
  states_left = 0;
  items_left = 0;
  gos_left = 0;
  above = 0;
}

-- a shape among the states: after the rules of s, of m states, j are left after the one being read, of which i items and l go lines are left;
-- the X of its next go line is at least a
abbrev pub body_shape : Due → Shape → ℕ → ℕ → ℕ → ℕ → ℕ → Shape
body_shape w s m j i l a = record {
  due = w;
  terms = s.terms;
  nonterms = s.nonterms;
  rules = s.rules;
  rules_left = 0;
  states = m;
  states_left = j;
  items_left = i;
  gos_left = l;
  above = a;
}

-- nothing was accepted
abbrev pub start_shape : Shape
start_shape = heading_shape Terms 0 0 0 0

-- ---- one line's numbers

-- whether they fit where that line is due: after t kinds, n nonterminals, r rules with right sides of these lengths, and m states, of the go lines
-- that may be on a and above
unfoldable pub fits_due : Due → ℕ → ℕ → ℕ → ℕ → ℕ → List ℕ → List ℕ → Bool
unfolding fits_rule fits_state fits_item fits_go
fits_due w t n r m a ls xs = elim w [
  | Terms ↦ fits_one max_terms xs
  | Nonterms ↦ fits_one max_nonterms xs
  | Rules ↦ fits_one max_rules xs
  | Rule ↦ ltb r max_rules && fits_rule t n xs
  | States ↦ fits_one max_states xs
  | State ↦ fits_state xs
  | Item ↦ fits_item t (take r ls) xs
  | Go ↦ fits_go t n m (leb a) xs
  | End ↦ false
]

-- whether they fit after what a shape says; the list has the lengths of the right sides
abbrev pub fits_shape : Shape → List ℕ → List ℕ → Bool
fits_shape s ls xs = fits_due s.due s.terms s.nonterms s.rules s.states s.above ls xs

-- the one while some are left, and then the other
abbrev pub due_while : ℕ → Due → Due → Due
due_while zero a b = b
due_while (suc k) a b = a

-- what is due in a state of which i items and l go lines are left; with none left the state is finished
unfoldable pub settled_shape : Shape → ℕ → ℕ → ℕ → Shape
settled_shape s zero zero a = body_shape (due_while s.states_left State End) s s.states s.states_left 0 0 0
settled_shape s zero (suc l) a = body_shape Go s s.states s.states_left 0 (suc l) a
settled_shape s (suc i) l a = body_shape Item s s.states s.states_left (suc i) l a

-- after a rule line: another one, or the count of states
abbrev pub rule_shape : Shape → Shape
rule_shape s = heading_shape (due_while (less s.rules_left) Rule States) s.terms s.nonterms (suc s.rules) (less s.rules_left)

-- the shape with a line's numbers taken in
unfoldable pub next_shape : Shape → List ℕ → Shape
unfolding settled_shape
next_shape s xs = elim s.due [
  | Terms ↦ heading_shape Nonterms (at xs 0) 0 0 0
  | Nonterms ↦ heading_shape Rules s.terms (at xs 0) 0 0
  | Rules ↦ heading_shape Rule s.terms s.nonterms 0 (at xs 0)
  | Rule ↦ rule_shape s
  | States ↦ body_shape State s (at xs 0) (at xs 0) 0 0 0
  | State ↦ body_shape Item s s.states (less s.states_left) (at xs 0) (at xs 1) 0
  | Item ↦ settled_shape s (less s.items_left) s.gos_left s.above
  | Go ↦ settled_shape s s.items_left (less s.gos_left) (suc (at xs 0))
  | End ↦ s
]

-- the next shape, or none where the line is unfit
unfoldable pub accepted : Shape → List ℕ → List ℕ → Option Shape
unfolding fits_due next_shape
accepted s ls xs = elim (fits_shape s ls xs) [ true ↦ Some (next_shape s xs) | false ↦ None ]

-- the lengths with that of a rule line set at the rule's number; other lines leave them
unfoldable pub lengths_with : Shape → List ℕ → List ℕ → List ℕ
lengths_with s ls xs = elim s.due [
  | Terms ↦ ls
  | Nonterms ↦ ls
  | Rules ↦ ls
  | Rule ↦ set ls s.rules (less (length xs))
  | States ↦ ls
  | State ↦ ls
  | Item ↦ ls
  | Go ↦ ls
  | End ↦ ls
]

-- the lengths after a line: an unfit line leaves them
unfoldable pub lengths_after : Shape → List ℕ → List ℕ → List ℕ
unfolding fits_due lengths_with
lengths_after s ls xs = elim (fits_shape s ls xs) [ true ↦ lengths_with s ls xs | false ↦ ls ]
