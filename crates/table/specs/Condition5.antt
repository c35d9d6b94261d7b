-- Condition 5 said of one item and of one go line of a state, and the marks of the items that are met in the targets of the go lines.
use Rattle.std.specs.Prelude.{ℕ, suc, ◌-◌, ◌≤◌, ◌<◌, ◌≡◌, ◌⊎◌, Option, None, Some, List, length, get_or}
use mathlib.Core.List.{Memᴰ as Mem}
use Rattle.theory.specs.Table.{Table, Item, Go, state_at, InState, After, Subset}
use Rattle.table.specs.Sets.{SetOf}
use Rattle.table.specs.Items.{Agrees}
use Rattle.table.specs.Spots.{cores, core_of}
pub mod Spotted

-- j is i with the dot moved on, and its set contains the old one
pub record Moved (i j : Item) : Type 0 where
  pub same_rule : j.rule ≡ i.rule
  pub next_dot : j.dot ≡ suc i.dot
  pub contains : Subset i.ahead j.ahead

-- the item has a dot above 0, and c is the number of its rule and the dot before
abbrev pub From : Item → ℕ → Type 0
From j c = (suc 0 ≤ j.dot) × (core_of j.rule (j.dot - 1) ≡ c)

-- state s has set its mark, suc s, at the numbers that have the property, and at no others
pub record MarkedAt (s : ℕ) (P : ℕ → Type 0) (before after : List ℕ) : Type 0 where
  pub long : length after ≡ cores
  pub marks : (c : ℕ) → c < cores → P c → get_or after c 0 ≡ suc s
  pub each : (c : ℕ) → (get_or after c 0 ≡ get_or before c 0) ⊎ ((get_or after c 0 ≡ suc s) × P c)

-- the marks are those of states up to s
pub record MarksTo (s : ℕ) (marks : List ℕ) : Type 0 where
  pub long : length marks ≡ cores
  pub low : (c : ℕ) → get_or marks c 0 ≤ s

module _ (t : Table) (s : ℕ) where
  -- the look-ahead set of the state's item with this rule and this dot; none, if it has no such item
  abbrev pub AheadOf : ℕ → ℕ → Option ℕ → Type 0
  AheadOf rule dot (Some set) = (i : Item) × InState t s i × Agrees rule dot i × SetOf (λ a. Mem a i.ahead) (suc t.grammar.terms) set
  AheadOf rule dot None = (i : Item) → InState t s i → Agrees rule dot i → ⊥

  -- the item with the dot moved on is in the target of a go line for the symbol after its dot
  abbrev pub Onward : Item → Type 0
  Onward i = (x : ℕ) → After t.grammar i x → (l : Go) × Mem l (state_at t s).gos × (l.on ≡ x) × ((j : Item) × InState t l.to j × Moved i j)

  -- the item, if its dot is above 0, is an item of the state that has x after its dot, with the dot moved on
  abbrev pub Back : ℕ → Item → Type 0
  Back x j = suc 0 ≤ j.dot → (i : Item) × InState t s i × After t.grammar i x × Moved i j

  -- the go line does not lead to state 0, and each item of its target comes so from the state
  abbrev pub Led : Go → Type 0
  Led l = (suc 0 ≤ l.to) × ((j : Item) → InState t l.to j → Back l.on j)

  -- some item of a state is met at the number
  abbrev pub MetIn : ℕ → ℕ → Type 0
  MetIn to c = (j : Item) × InState t to j × From j c

  -- some item of the target of a go line of the state is met at the number
  abbrev pub Met : ℕ → Type 0
  Met c = (l : Go) × Mem l (state_at t s).gos × MetIn l.to c

  -- the marks of the state tell where items are met
  pub record MarksTell (marks : List ℕ) : Type 0 where
    pub told : (c : ℕ) → get_or marks c 0 ≡ suc s → Met c
    pub shown : (c : ℕ) → c < cores → Met c → get_or marks c 0 ≡ suc s
