-- The look-ups of a table: rows of numbers, one for each state, built once. An entry is 0 for none, else one more than what is meant.
use Rattle.std.specs.Prelude.{◌≡◌, cond, List, ℕ, suc, ◌+◌, ◌*◌, ◌-◌, ◌≤◌, ◌<◌, eqb, length, get_or, take, drop}
use Rattle.std.proofs.Math.Option.{Option, none, some}
use Rattle.lines.specs.Ranges.{InRange}
use Rattle.theory.specs.Table.{Table, Passes, count, goto, reduce_on, rule_at}

-- row k of rows of m entries each: the part from k · m to k · m + m
abbrev pub row_of : List ℕ → ℕ → ℕ → List ℕ
row_of rows m k = take (k * m + m - k * m) (drop (k * m) rows)

-- what an entry means
unfoldable pub meant : List ℕ → ℕ → Option ℕ
meant row i = cond (eqb (get_or row i 0) 0) none (some (get_or row i 0 - 1))

-- the row has the go targets on the symbol y, for m states
pub record Row (row : List ℕ) (m : ℕ) (t : Table) (y : ℕ) : Type 0 where
  pub same : (s : ℕ) → goto t s y ≡ meant row s
  pub low : (s u : ℕ) → goto t s y ≡ some u → u < m
  pub long : m ≤ length row

-- the row has the rules by which the states reduce on the token y, for m states
pub record Acts (acts : List ℕ) (m : ℕ) (t : Table) (y : ℕ) : Type 0 where
  pub same : (s : ℕ) → reduce_on t s y ≡ meant acts s
  pub long : m ≤ length acts

-- The table passes the check, is within the ranges, and has m states.
pub record Passing (m : ℕ) (t : Table) : Type 0 where
  pub passes : Passes t
  pub ranges : InRange t
  pub states : m ≡ count t

-- The go targets of a table: a row for each symbol, the end mark's with none, in order of their numbers.
pub record GoRows (t : Table) (go : List ℕ) : Type 0 where
  pub each : (y s : ℕ) → y ≤ t.grammar.terms + t.grammar.nonterms → s < count t → meant go (y * count t + s) ≡ goto t s y
  pub all : suc (t.grammar.terms + t.grammar.nonterms) * count t ≤ length go

-- The rules by which states reduce: a row for each token.
pub record ActRows (t : Table) (acts : List ℕ) : Type 0 where
  pub each : (a s : ℕ) → a < t.grammar.terms → s < count t → meant acts (a * count t + s) ≡ reduce_on t s a
  pub all : t.grammar.terms * count t ≤ length acts

-- The rules' right sides' lengths and left sides.
pub record RuleRows (t : Table) (lens lefts : List ℕ) : Type 0 where
  pub right : (r : ℕ) → r < length t.grammar.rules → get_or lens r 0 ≡ length (rule_at t.grammar r).right
  pub left : (r : ℕ) → r < length t.grammar.rules → get_or lefts r 0 ≡ (rule_at t.grammar r).left
  pub all_lens : length t.grammar.rules ≤ length lens
  pub all_lefts : length t.grammar.rules ≤ length lefts

-- All look-ups of a table.
pub record Rows (t : Table) (acts go lens lefts : List ℕ) : Type 0 where
  pub act : ActRows t acts
  pub goes : GoRows t go
  pub rules : RuleRows t lens lefts
