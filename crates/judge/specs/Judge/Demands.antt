-- What a judgement is worth: demands 2 and 3 of every judgement that is no refusal, in one place.
use Rattle.std.specs.Prelude.{Ok, Err}
use Rattle.table.specs.declared.Fault.{Fault}
use Rattle.std.specs.Prelude.{ℕ, ◌+◌, ◌*◌, ◌≤◌, ◌<◌, ◌≡◌, refl, Bool, true, false, List, [], length, eqb}
use Rattle.std.proofs.Common.{arith, subst}
use Rattle.theory.specs.Grammar.{Tokens, empty}
use Rattle.theory.specs.Table.{Table, count}
use Rattle.theory.specs.Forest.{Judged, Rising, size}
use Rattle.theory.specs.Forest.Between.{JudgedAll}
use Rattle.theory.proofs.Sound.{judged_all}
use Rattle.theory.specs.Demands.{Told}
use Rattle.theory.proofs.Demands.{judgement, demand_2, demand_3, demand_3_nodes}
use Rattle.lines.specs.Basics.{impossible}
use Rattle.table.specs.Check.{numbers}
use Rattle.table.specs.Check.{Check}
use Rattle.judge.specs.declared.Judgement.{Judgement}
use Rattle.judge.specs.Judge.{words, Good, Ready, JudgesUpTo, Judges}
use Rattle.judge.specs.Judge.Exact.{unique}

-- the verdict is yes where the answer is 0
abbrev pub verdict : Judgement → Bool
verdict j = eqb j.answer 0

-- Of n tokens, with m states and N nonterminals, by a table that passes: answer 0 exactly for a piece, else 1 with the first token whose arrival
-- makes the front no piece; the steps are those that the forest's rules take, at most n · m · (2 + N · (m + 1)); between two steps the
-- forest's states rise, and it has at most m · (n + 1) nodes.
pub record Worth (ns tail : List ℕ) (j : Judgement) : Type 0 where
  pub table : Table
  pub good : Good ns table
  pub tokens : Tokens table.grammar tail
  pub judged : Judged table tail (verdict j) j.value j.steps
  pub told : Told table.grammar tail (verdict j) j.value
  pub bound : j.steps ≤ length tail * (count table * (2 + table.grammar.nonterms * (count table + 1)))
  pub nodes : JudgedAll (λ f. Rising (count table) f × (size f ≤ count table * (length tail + 1))) judged

-- what the check refuses has an answer above 1
pub refused_high : (c : Check) → ((numbers c).0 ≡ 0 → ⊥) → 2 ≤ (numbers c).0
unfolding numbers
refused_high (Ok m) n = absurd (n refl)
refused_high (Err Fault.TooLong) n = omega arith
refused_high (Err (Fault.Unfit k)) n = omega arith
refused_high (Err (Fault.NotReduced v)) n = omega arith
refused_high (Err (Fault.Ring v)) n = omega arith
refused_high (Err (Fault.Broken k s)) n = omega arith

-- a judgement of the forest is worth that
worth : {limit : ℕ} {ns tail : List ℕ} {room : ℕ} (t : Table) (j : Judgement) → Good ns t → Ready limit tail room t →
    Judged t tail (verdict j) j.value j.steps → Worth ns tail j
worth t j g r y = record {
  table = t;
  good = g;
  tokens = r.tokens;
  judged = y;
  told = demand_2 t g.passes y r.tokens;
  bound = demand_3 t g.passes y r.tokens;
  nodes = demand_3_nodes t g.passes y r.tokens;
}

-- every judgement that is no refusal is worth that
pub demands : {limit : ℕ} {ns tail : List ℕ} {room : ℕ} {j : Judgement} → JudgesUpTo limit ns tail room j → j.answer < 2 → Worth ns tail j
demands (JudgesUpTo.refused c h n) l = impossible (omega (arith, refused_high c n))
demands (JudgesUpTo.over t g h) l = impossible (omega arith)
demands (JudgesUpTo.strange t i g h s) l = impossible (omega arith)
demands (JudgesUpTo.no_room t g h ts r) l = impossible (omega arith)
demands (JudgesUpTo.piece t k g r y) l = worth t _ g r y
demands (JudgesUpTo.stop t i k g r y) l = worth t _ g r y

-- a refusal has no steps
pub refusal_steps : {limit : ℕ} {ns tail : List ℕ} {room : ℕ} {j : Judgement} → JudgesUpTo limit ns tail room j → 2 ≤ j.answer → j.steps ≡ 0
refusal_steps (JudgesUpTo.refused c h n) l = refl
refusal_steps (JudgesUpTo.over t g h) l = refl
refusal_steps (JudgesUpTo.strange t i g h s) l = refl
refusal_steps (JudgesUpTo.no_room t g h ts r) l = refl
refusal_steps (JudgesUpTo.piece t k g r y) l = impossible (omega arith)
refusal_steps (JudgesUpTo.stop t i k g r y) l = impossible (omega arith)

-- a tail that is ready to be judged by a table that passes is not refused
pub not_refused : {limit : ℕ} {ns tail : List ℕ} {room : ℕ} {j : Judgement} (t : Table) → Good ns t → Ready limit tail room t →
    JudgesUpTo limit ns tail room j → j.answer < 2
not_refused {limit} {ns} {tail} {room} {j} t g r h = at (judgement t g.passes tail r.tokens)
  where
    same : (j' : Judgement) → JudgesUpTo limit ns tail room j' → j'.answer < 2 → j.answer < 2
    same j' h' l = subst (λ (x : Judgement). x.answer < 2) (unique limit ns tail room j' j h' h) l

    at : ((v : Bool) × (i : ℕ) × (k : ℕ) × Judged t tail v i k) → j.answer < 2
    at (true, i, k, y) = same _ (JudgesUpTo.piece t k g r (subst (λ (x : ℕ). Judged t tail true x k) (judged_all y refl) y)) (omega arith)
    at (false, i, k, y) = same _ (JudgesUpTo.stop t i k g r y) (omega arith)

-- the empty tail is a piece, with no step
pub empty_piece : {ns : List ℕ} {room : ℕ} (t : Table) → Good ns t → words (count t) 0 ≤ room →
    Judges ns [] room (record { answer = 0; value = 0; steps = 0 })
empty_piece t g h = JudgesUpTo.piece t 0 g (record { few = omega arith; tokens = empty; enough = h }) Judged.empty
