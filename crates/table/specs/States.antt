-- Reading the lines of a table's states: what it comes to, for whatever lines were read before, and the look-ahead sets that are noted on the way.
use Rattle.std.specs.Prelude.{ℕ, zero, suc, ◌+◌, ◌-◌, ◌*◌, ◌/◌, ◌≤◌, ◌<◌, ◌≡◌, true, false, List, length, get_or, take, drop, set, Option, Some, None, Result, Ok, Err, MatchOption}
use Rattle.std.specs.Borrow.{Bor}
use mathlib.Core.List.{Memᴰ as Mem}
use Rattle.lines.specs.Limits.{max_terms, max_rules, max_states, max_numbers}
use Rattle.lines.specs.Lines.Fits.{ahead_fits, fits_item}
use Rattle.lines.specs.Shape.{due_while}
use Rattle.lines.specs.declared.shape.Due.{Due}
use Rattle.lines.specs.declared.shape.Due.TheVariants.{State, Item, Go, End}
use Rattle.lines.specs.declared.shape.Shape.{Shape}
use Rattle.table.specs.declared.Sizes.{Sizes}
use Rattle.table.specs.declared.Unread.{Unread}
use Rattle.table.specs.declared.states.Reached.{Reached}
use Rattle.table.specs.Items.{item_in}
use Rattle.table.specs.Lined.{Refused}
use Rattle.table.specs.Sets.{SetOf}
use Rattle.table.specs.Walk.{Walked}

-- ---- one line

-- the numbers of the line at a place
abbrev pub numbers_at : List ℕ → ℕ → List ℕ
numbers_at ns p = take (get_or ns p 0) (drop (suc p) ns)

-- a whole line stands at a place
abbrev pub Whole : List ℕ → ℕ → Type 0
Whole ns p = (p < length ns) × (get_or ns p 0 ≤ length ns - (p + 1))

-- the numbers of the line at a place, where a whole line stands
abbrev pub LineOf : List ℕ → ℕ → Option (Bor (List ℕ)) → Type 0
LineOf ns p o = MatchOption o (Whole ns p → ⊥) (λ xs. Whole ns p × (xs.now ≡ numbers_at ns p))

-- what reading a look-ahead set answers: the set of its members, if it fits
abbrev pub AheadRead : ℕ → List ℕ → Option ℕ → Type 0
AheadRead terms xs None = ahead_fits terms xs ≡ false
AheadRead terms xs (Some made) = (ahead_fits terms xs ≡ true) × SetOf (λ a. Mem a xs) (suc terms) made

-- what reading an item line answers: its look-ahead set, if it fits after rules whose right sides have these lengths
abbrev pub ItemRead : ℕ → List ℕ → List ℕ → Option ℕ → Type 0
ItemRead terms rights xs None = fits_item terms rights xs ≡ false
ItemRead terms rights xs (Some made) = (fits_item terms rights xs ≡ true) × SetOf (λ a. Mem a (drop 2 xs)) (suc terms) made

-- ---- shapes

-- a shape among the states of a table of these sizes: j states are left after the one being read, of which i items and l go lines are left; the
-- X of its next go line is at least a
abbrev pub shape_in : Due → Sizes → ℕ → ℕ → ℕ → ℕ → Shape
shape_in w z j i l a = record {
  due = w;
  terms = z.terms;
  nonterms = z.nonterms;
  rules = z.rules;
  rules_left = 0;
  states = z.states;
  states_left = j;
  items_left = i;
  gos_left = l;
  above = a;
}

-- the same, with what is due then; with no line left the state is finished
unfoldable pub in_state : Sizes → ℕ → ℕ → ℕ → ℕ → Shape
in_state z j zero zero a = shape_in (due_while j State End) z j 0 0 0
in_state z j zero (suc l) a = shape_in Go z j 0 (suc l) a
in_state z j (suc i) l a = shape_in Item z j (suc i) l a

-- the numbers are not too many, and kinds, rules and states are within the limits
pub record Within (ns : List ℕ) (z : Sizes) : Type 0 where
  pub few : length ns ≤ max_numbers
  pub terms_in : z.terms ≤ max_terms
  pub rules_in : z.rules ≤ max_rules
  pub states_in : z.states ≤ max_states

-- a reading has come to a place inside the numbers; every line before it has a count at least
pub record Inside (ns : List ℕ) (r : Reached) : Type 0 where
  pub inside : r.at ≤ length ns
  pub counted : r.line ≤ r.at

-- ---- lines one after the other

-- the lines from one place to another make the one shape the other, whatever was read before
pub record Goes (ns lengths : List ℕ) (s s' : Shape) (from to : Reached) : Type 0 where
  pub on : {ra sa : List ℕ} → Walked ns from.at from.line s lengths ra sa → Walked ns to.at to.line s' lengths ra sa

-- after that shape the lines from a place on are not read, for this reason
pub record Stops (ns lengths : List ℕ) (s : Shape) (from : Reached) (e : Unread) : Type 0 where
  pub stop : {ra sa : List ℕ} → Walked ns from.at from.line s lengths ra sa → Refused ns e

-- all lines of a state from one place to another; the first place is noted as the state's
pub record StateGoes (ns lengths : List ℕ) (z : Sizes) (from to : Reached) : Type 0 where
  pub on : (j : ℕ) → suc j ≤ z.states → {ra sa : List ℕ} → Walked ns from.at from.line (in_state z (suc j) 0 0 0) lengths ra sa →
      Walked ns to.at to.line (in_state z j 0 0 0) lengths ra (set sa (z.states - suc j) from.at)

-- reading on from a place has come to another, at least as many places on as lines were read: each has a count at least
pub record Reach (ns : List ℕ) (from to : Reached) : Type 0 where
  pub inside : Inside ns to
  pub lines : from.line ≤ to.line
  pub past : from.at + to.line ≤ to.at + from.line

-- ---- the sets noted

-- the place of the k-th line from a place on
unfoldable pub line_place : List ℕ → ℕ → ℕ → ℕ
line_place ns p zero = p
line_place ns p (suc k) = line_place ns p k + 1 + get_or ns (line_place ns p k) 0

-- the set of the item at a place is noted, if there is room for it
abbrev pub SetIn : List ℕ → ℕ → List ℕ → ℕ → Type 0
SetIn ns terms sets p = p < 4 * length sets → SetOf (λ a. Mem a (item_in ns p).ahead) (suc terms) (get_or sets (p / 4) 0)

-- the sets of the first k items from a place on are noted, up to another place; those of items before them are as they were
pub record SetsTo (ns : List ℕ) (terms from k at : ℕ) (before after : List ℕ) : Type 0 where
  pub long : length after ≡ length before
  pub each : (i : ℕ) → i < k → SetIn ns terms after (line_place ns from i) × (line_place ns from i + 4 ≤ at)
  pub kept : (q : ℕ) → q + 4 ≤ from → get_or after (q / 4) 0 ≡ get_or before (q / 4) 0

-- the sets of all items of the first s states are noted, up to a place
abbrev pub StatesSets : List ℕ → ℕ → List ℕ → ℕ → ℕ → List ℕ → Type 0
StatesSets ns terms places s at sets = (u : ℕ) → u < s → (k : ℕ) → k < get_or ns (get_or places u 0 + 1) 0 →
    SetIn ns terms sets (line_place ns (get_or places u 0 + 3) k) × (line_place ns (get_or places u 0 + 3) k + 4 ≤ at)

-- ---- what the readings answer

-- of a state's items: where all fit the place after them, so many lines on, and their look-ahead sets are noted where there is room
abbrev pub ItemsRead : List ℕ → List ℕ → Sizes → Reached → ℕ → List ℕ → List ℕ → Result Reached Unread → Type 0
ItemsRead ns lengths z from count before after (Ok to) =
    Reach ns from to × (to.line ≡ from.line + count) ×
    ((j l : ℕ) → Goes ns lengths (in_state z j count l 0) (in_state z j 0 l 0) from to) × SetsTo ns z.terms from.at count to.at before after
ItemsRead ns lengths z from count before after (Err e) = (j l : ℕ) → Stops ns lengths (in_state z j count l 0) from e

-- of a state's go lines: where all fit the place after them, so many lines on
abbrev pub GosRead : List ℕ → List ℕ → Sizes → Reached → ℕ → Result Reached Unread → Type 0
GosRead ns lengths z from count (Ok to) =
    Reach ns from to × (to.line ≡ from.line + count) × ((j : ℕ) → Goes ns lengths (in_state z j 0 count 0) (in_state z j 0 0 0) from to)
GosRead ns lengths z from count (Err e) = (j : ℕ) → Stops ns lengths (in_state z j 0 count 0) from e

-- of a state, its own line among them: the same, and the sets of its items
abbrev pub StateRead : List ℕ → List ℕ → Sizes → Reached → List ℕ → List ℕ → Result Reached Unread → Type 0
StateRead ns lengths z from before after (Ok to) =
    Reach ns from to × StateGoes ns lengths z from to ×
    SetsTo ns z.terms (from.at + 3) (get_or ns (from.at + 1) 0) to.at before after
StateRead ns lengths z from before after (Err e) = (j : ℕ) → Stops ns lengths (in_state z (suc j) 0 0 0) from e
