-- Condition 4 said token by token: what a state's items ask of the rules of the nonterminals after their dots, and what its items with dot 0 give.
use Rattle.std.specs.Prelude.{ℕ, suc, ◌<◌, ◌≡◌, List, [], ◌∷◌, length, get_or, set}
use mathlib.Core.List.{Memᴰ as Mem}
use Rattle.std.specs.Int.Bits.{bit_or}
use Rattle.theory.specs.Grammar.{Grammar, Begins}
use Rattle.theory.specs.Table.{Item, rest}
use Rattle.table.specs.Sets.{SetOf}
use Rattle.table.specs.Places.{no_item}
use Rattle.table.specs.Notions.{nonterm}
pub mod Told

-- the item has b after its dot and asks for a: a can begin the symbol next after b or, if b is last, is in the item's own set
pub data Asks (g : Grammar) (b : ℕ) (i : Item) (a : ℕ) : Type 0 where
  next : (x : ℕ) (xs : List ℕ) → rest g i ≡ b ∷ x ∷ xs → Begins g x a → Asks g b i a
  last : rest g i ≡ b ∷ [] → Mem a i.ahead → Asks g b i a

-- the item is rule r with dot 0, and its set has a
pub record Gives (r : ℕ) (i : Item) (a : ℕ) : Type 0 where
  pub its_rule : i.rule ≡ r
  pub its_dot : i.dot ≡ 0
  pub its_set : Mem a i.ahead

-- one of the first k items has it
abbrev pub Among : List Item → ℕ → (Item → Type 0) → Type 0
Among is k P = (j : ℕ) × (j < k) × P (get_or is j no_item)

-- The rows after one item more: no row changes where it has nothing for any; else the row that it has something for has its set too.
pub data Noted (w n : ℕ) (P : ℕ → ℕ → Type 0) (rows : List ℕ) : List ℕ → Type 0 where
  skipped : ((r a : ℕ) → r < n → P r a → ⊥) → Noted w n P rows rows
  joined : (q more : ℕ) → q < length rows → SetOf (P q) w more → ((r a : ℕ) → P r a → r ≡ q) → Noted w n P rows (set rows q (bit_or (get_or rows q 0) more))

-- row b of the sets has what the first k items ask of the b-th nonterminal's rules
abbrev pub Asked : Grammar → List Item → ℕ → List ℕ → Type 0
Asked g is k rows = (b : ℕ) → b < g.nonterms → SetOf (λ a. Among is k (λ i. Asks g (nonterm g b) i a)) (suc g.terms) (get_or rows b 0)

-- row r of the sets has what the first k items give for rule r
abbrev pub Given : Grammar → List Item → ℕ → List ℕ → Type 0
Given g is k rows = (r : ℕ) → r < length g.rules → SetOf (λ a. Among is k (λ i. Gives r i a)) (suc g.terms) (get_or rows r 0)

-- the item's asking has been added to the rows
abbrev pub NotedAsked : Grammar → Item → List ℕ → List ℕ → Type 0
NotedAsked g i = Noted (suc g.terms) g.nonterms (λ b a. Asks g (nonterm g b) i a)

-- the item's giving has been added to the rows
abbrev pub NotedGiven : Grammar → Item → List ℕ → List ℕ → Type 0
NotedGiven g i = Noted (suc g.terms) (length g.rules) (λ r a. Gives r i a)
