-- What is known while the lines of a table are read one after the other: where the parts of the draft stand among the numbers so far, and that
-- reading on from there is reading the whole.
use Rattle.std.specs.Prelude.{ℕ, ◌+◌, ◌*◌, ◌≤◌, ◌<◌, ◌≡◌, List, [], length, get_or, drop}
use Rattle.theory.specs.Table.{Item, Go, State}
use Rattle.lines.specs.Limits.{max_rules, max_states}
use Rattle.lines.specs.Lines.{Due, Draft, start, lines_at, grammar_of}
use Rattle.lines.specs.Shape.Shaped.{Shaped}
use Rattle.lines.specs.declared.shape.Shape.{Shape}
use Rattle.table.specs.Places.{item_place, ItemsAt, GosAt, RulesAt, StatesTo}

-- inside a state: after the states ss the items is and the go lines gs of the next one were read up to place p; i items and l go lines are left
pub record InState (ns : List ℕ) (p : ℕ) (places : List ℕ) (ss : List State) (is : List Item) (gs : List Go) (i l : ℕ) : Type 0 where
  pub before : StatesTo ns places ss (get_or places (length ss) 0)
  pub inside : get_or places (length ss) 0 + 2 < length ns
  pub counted : get_or ns (get_or places (length ss) 0) 0 ≡ 2
  pub items_counted : get_or ns (get_or places (length ss) 0 + 1) 0 ≡ length is + i
  pub gos_counted : get_or ns (get_or places (length ss) 0 + 2) 0 ≡ length gs + l
  pub items_at : ItemsAt ns (get_or places (length ss) 0 + 3) is
  pub gos_at : GosAt ns (item_place (get_or places (length ss) 0 + 3) is (length is)) gs
  pub here : p ≡ item_place (get_or places (length ss) 0 + 3) is (length is) + 3 * length gs

-- where the reading stands, by the line that is due
abbrev pub Stands : List ℕ → ℕ → List ℕ → Draft → Due → Type 0
Stands ns p places d Due.terms = Unit
Stands ns p places d Due.nonterms = Unit
Stands ns p places d Due.rules = Unit
Stands ns p places d Due.rule = Unit
Stands ns p places d Due.states = Unit
Stands ns p places d Due.state = StatesTo ns places d.states p × (length d.states + d.left_states ≡ d.count) × (1 ≤ d.left_states)
Stands ns p places d Due.item =
    InState ns p places d.states d.items d.gos d.left_items d.left_gos × (length d.states + 1 + d.left_states ≡ d.count) ×
    (1 ≤ d.left_items) × (d.gos ≡ [])
Stands ns p places d Due.go =
    InState ns p places d.states d.items d.gos d.left_items d.left_gos × (length d.states + 1 + d.left_states ≡ d.count) ×
    (1 ≤ d.left_gos) × (d.left_items ≡ 0)
Stands ns p places d Due.end = StatesTo ns places d.states p × (length d.states ≡ d.count)

-- the draft's rules and states stand at their places, up to place p
pub record Drafted (ns : List ℕ) (p : ℕ) (rulePlaces statePlaces : List ℕ) (d : Draft) : Type 0 where
  pub rules_at : RulesAt ns rulePlaces (grammar_of d)
  pub stands : Stands ns p statePlaces d d.due

-- the numbers before p are so many lines, and all of them fit; reading on from there is reading the whole
pub record Walked (ns : List ℕ) (p line : ℕ) (s : Shape) (lengths ra sa : List ℕ) : Type 0 where
  pub draft : Draft
  pub shaped : Shaped s lengths draft
  pub inside : p ≤ length ns
  pub counted : line ≤ p
  pub on : lines_at line draft (drop p ns) ≡ lines_at 0 start ns
  pub rules_long : length ra ≡ max_rules
  pub states_long : length sa ≡ max_states
  pub drafted : Drafted ns p ra sa draft
