-- The look-ups of a table: for each token and state the rule by which the state reduces, for each symbol and state the go target, and for each
-- rule its length and its left side. For a rule and for a target an entry is 0 for none, else one more than what is meant.
use Rattle.std.specs.Prelude.{ℕ, suc, ◌+◌, ◌*◌, ◌≤◌, ◌<◌, ◌≡◌, Bool, true, false, ◌&&◌, List, leb, length, get_or}
use Rattle.std.proofs.Math.Option.{Option, none, some}
use Rattle.theory.specs.Table.{Table, count, goto, reduce_on, rule_at}
use Rattle.lines.specs.Limits.{max_rules}
use Rattle.lines.specs.Lines.{Lined, read_numbers}
use Rattle.table.specs.Places.{table_in}
pub mod Columns

-- so many entries are enough for h kinds, n nonterminals and m states: one for each token and state, and one for each symbol and state, the end
-- mark's among them
unfoldable pub room_for : (h n m acts go : ℕ) → Bool
room_for h n m acts go = leb (h * m) acts && leb (suc (h + n) * m) go

-- what an entry is for a number or none
unfoldable pub coded : Option ℕ → ℕ
coded none = 0
coded (some v) = suc v

-- n entries with their values; all others are 0
pub record Row (n size : ℕ) (value : ℕ → ℕ) (entries : List ℕ) : Type 0 where
  pub each : (i : ℕ) → i < n → get_or entries i 0 ≡ value i
  pub rest : (i : ℕ) → n ≤ i → get_or entries i 0 ≡ 0
  pub long : length entries ≡ size

-- h rows one after the other, of m entries each, with their values; all others are 0
pub record Grid (h m size : ℕ) (value : ℕ → ℕ → ℕ) (entries : List ℕ) : Type 0 where
  pub each : (y s : ℕ) → y < h → s < m → get_or entries (y * m + s) 0 ≡ value y s
  pub rest : (i : ℕ) → h * m ≤ i → get_or entries i 0 ≡ 0
  pub long : length entries ≡ size

-- all look-ups of a table, with so many entries for tokens and states and so many for symbols and states
pub record LookUps (t : Table) (actSize goSize : ℕ) (acts go lens lefts : List ℕ) : Type 0 where
  pub act : Grid t.grammar.terms (count t) actSize (λ a s. coded (reduce_on t s a)) acts
  pub goes : Grid (suc (t.grammar.terms + t.grammar.nonterms)) (count t) goSize (λ y s. coded (goto t s y)) go
  pub right : Row (length t.grammar.rules) max_rules (λ r. length (rule_at t.grammar r).right) lens
  pub left : Row (length t.grammar.rules) max_rules (λ r. (rule_at t.grammar r).left) lefts

-- whether the lines of the numbers fit
unfoldable pub fit : Lined → Bool
fit Lined.over = false
fit (Lined.unfit n) = false
fit (Lined.fine d) = true

-- whether so many entries are enough for a table
abbrev pub roomy : Table → ℕ → ℕ → Bool
roomy t acts go = room_for t.grammar.terms t.grammar.nonterms (count t) acts go

-- What building the look-ups tells, and what it leaves of the four arrays: where the lines do not fit or there is too little room it changes
-- nothing. No array changes its length.
pub record Looked (ns acts go lens lefts acts' go' lens' lefts' : List ℕ) (r : Bool) : Type 0 where
  pub told : r ≡ (fit (read_numbers ns) && roomy (table_in ns) (length acts) (length go))
  pub built : r ≡ true → LookUps (table_in ns) (length acts) (length go) acts' go' lens' lefts'
  pub kept : r ≡ false → (acts' ≡ acts) × (go' ≡ go) × (lens' ≡ lens) × (lefts' ≡ lefts)
