-- What a step and a reduce phase ask and leave, in the theory's words.
use Rattle.std.specs.Prelude.{◌≡◌, Bool, false, List, ℕ, suc, ◌+◌, ◌*◌, ◌≤◌, ◌<◌, length, get_or}
use Rattle.lines.specs.Limits.{max_terms, max_nonterms, max_states, max_tail}
use Rattle.theory.specs.Table.{Table, count, has}
use Rattle.theory.specs.Forest as Of
use Rattle.theory.specs.Forest.{Forest, nothing, tree, Phase, Chosen, reduced, Rising}
use Rattle.theory.specs.Forest.Sizes.{inner}
use Rattle.theory.specs.Bound.{fresh_phase}
use Rattle.theory.proofs.Bound.Potential.{Inv}
use Rattle.forest.specs.Rows.{Acts, Passing, GoRows, RuleRows}
use Rattle.forest.specs.Held.{Held, Split, Becomes}

-- how many numbers of symbols there can be: the kinds, the end mark and the nonterminals
abbrev pub max_symbols : ℕ
max_symbols = max_terms + 1 + max_nonterms

-- at least as many steps as any phase makes: what its potential can be at most
abbrev pub most_steps : ℕ
most_steps = (1 + max_nonterms * (max_states + 1)) * (max_states * (max_tail + 2)) + max_states

-- the table passes, has m states, and these are its go targets and rules
pub record Known (go lens lefts : List ℕ) (m : ℕ) (t : Table) : Type 0 where
  pub table : Passing m t
  pub goes : GoRows t go
  pub rules : RuleRows t lens lefts

-- The marks of the nonterminals to which a long reduction was made in the phase: whether it was, for each symbol.
pub record Marks (marks : List Bool) (marked : List ℕ) : Type 0 where
  pub each : (a : ℕ) → a < max_symbols → has marked a ≡ get_or marks a false
  pub all : length marks ≡ max_symbols

-- ---- one step

-- the chosen tree's rule is r, the marks are the phase's, and there are nodes enough
pub record CanStep (go lens lefts : List ℕ) (marks : List Bool) (m r C : ℕ) (t : Table) (p : Phase) (c : Chosen) : Type 0 where
  pub known : Known go lens lefts m t
  pub rule : r ≡ c.rule
  pub listed : r < length t.grammar.rules
  pub marked : Marks marks p.marked
  pub rising : Rising (count t) (tree c.state c.kids nothing)
  pub rising_others : Rising (count t) c.others
  pub room : inner c.others + suc (Of.size c.kids) + 2 * count t ≤ C

-- some tree at x and some forest can make a step so
pub record SomeStep (w go lens lefts : List ℕ) (marks : List Bool) (m x r : ℕ) : Type 0 where
  pub C : ℕ
  pub t : Table
  pub p : Phase
  pub c : Chosen
  pub split : Split w C x (tree c.state c.kids nothing) c.others
  pub can : CanStep go lens lefts marks m r C t p c

-- the room holds the forest after the step, and the marks are those after it
pub record Stepped (w v : List ℕ) (after : List Bool) (C : ℕ) (t : Table) (p : Phase) (c : Chosen) : Type 0 where
  pub becomes : Becomes w v C (reduced t p c).forest
  pub marked : Marks after (reduced t p c).marked

-- whatever tree and forest the room held
abbrev pub Steps : List ℕ → List ℕ → List ℕ → List ℕ → List Bool → ℕ → ℕ → ℕ → List ℕ → List Bool → Type 0
Steps w go lens lefts marks m x r v after =
    (C : ℕ) (t : Table) (p : Phase) (c : Chosen) → Split w C x (tree c.state c.kids nothing) c.others →
    CanStep go lens lefts marks m r C t p c → Stepped w v after C t p c

-- ---- a reduce phase

-- nodes enough for all steps of a token, while they run too: the inner nodes, and twice a root for each state, and one
abbrev pub Enough : ℕ → Table → Forest → Type 0
Enough C t F = inner F + 2 * count t + 1 ≤ C

-- the row of actions is the token's, the forest is one before a phase, and there are nodes enough for all its steps and the shift
pub record CanPhase (acts go lens lefts : List ℕ) (m C : ℕ) (t : Table) (a : ℕ) (F : Forest) : Type 0 where
  pub known : Known go lens lefts m t
  pub does : Acts acts (count t) t a
  pub token : a < t.grammar.terms
  pub before : Inv t (fresh_phase F)
  pub room : Enough C t F

-- the room holds some forest before a phase
pub record SomePhase (w acts go lens lefts : List ℕ) (m : ℕ) : Type 0 where
  pub C : ℕ
  pub t : Table
  pub a : ℕ
  pub F : Forest
  pub held : Held w C F
  pub can : CanPhase acts go lens lefts m C t a F

-- the room holds the forest after the phase, which took n steps
pub record Phased (w v : List ℕ) (C : ℕ) (t : Table) (a : ℕ) (F : Forest) (n : ℕ) : Type 0 where
  pub end : Phase
  pub reduces : Of.Reduces t a (fresh_phase F) n end
  pub becomes : Becomes w v C end.forest
  pub few : n ≤ most_steps

-- whatever forest it held
abbrev pub Phases : List ℕ → List ℕ → List ℕ → List ℕ → List ℕ → ℕ → List ℕ → ℕ → Type 0
Phases w acts go lens lefts m v n =
    (C : ℕ) (t : Table) (a : ℕ) (F : Forest) → Held w C F → CanPhase acts go lens lefts m C t a F → Phased w v C t a F n
