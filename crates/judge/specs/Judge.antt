-- The judge: answer, value and steps as a relation, one case for each row of document 01's table of numbers, and as a program; and the room
-- afterwards. `Judge.Exact` proves that exactly one judgement holds: the program's. `Judge.Demands` says what a judgement is
-- worth. `Judge.Into` adds the room.
use Rattle.std.specs.Prelude.{Result, Err}
use Rattle.table.specs.declared.Fault.{Fault}
use Rattle.std.specs.Prelude.{ℕ, suc, ◌+◌, ◌*◌, ◌≤◌, ◌<◌, ◌≡◌, true, false, List, [], ◌∷◌, ◌++◌, length, drop, replicate, ltb, leb}
use Rattle.std.proofs.Math.Option.{Option, none, some}
use Rattle.theory.specs.Grammar.{Grammar, Tokens}
use Rattle.theory.specs.Table.{Table, Passes, count, goto, go_in, reduce_on, reduce_in, has, is_empty}
use Rattle.theory.specs.Forest.{Judged, choose, chosen, reduced, long, long_of, long_in, join, weave, meet, grow, short}
use Rattle.theory.specs.Run.{Out, reduce_by, reduce_all, take_by, take_all_tokens, judge_by, judge}
use Rattle.lines.specs.Limits.{max_tail, stride}
use Rattle.lines.specs.Lines.{Lined, read_numbers, table_of}
use Rattle.lines.specs.Ranges.{FitLines}
use Rattle.table.specs.Checks.{Answer}
use Rattle.table.specs.Run.{checks}
use Rattle.table.specs.Check.{Checks, numbers, told, check_outcome}
use Rattle.table.specs.Check.{Check}
use Rattle.sheet.specs.Reads.{answer_of}
use Rattle.sheet.specs.declared.ReadError.{ReadError}
use Rattle.judge.specs.declared.Judgement.{Judgement}
pub mod Exact
pub mod Demands
pub mod Into

-- a refusal has no steps
abbrev pub refusal : ℕ → ℕ → Judgement
refusal a v = record { answer = a; value = v; steps = 0 }

-- the check's answer handed out as a judgement
abbrev pub handed : Check → Judgement
handed c = refusal (numbers c).0 (numbers c).1

-- the reader's answer handed out as a judgement
abbrev pub handed_read : Result ℕ ReadError → Judgement
handed_read a = refusal (answer_of a).0 (answer_of a).1

-- 32-bit words of room for n tokens with m states
abbrev pub words : ℕ → ℕ → ℕ
words m n = stride * (m * (n + 2))

-- ---- the judgement

-- the numbers are those of the table, which passes
pub record Good (ns : List ℕ) (t : Table) : Type 0 where
  pub its_numbers : FitLines ns t
  pub passes : Passes t

-- the first token not below T is at place i
pub record Strange (g : Grammar) (tail : List ℕ) (i : ℕ) : Type 0 where
  pub before : List ℕ
  pub token : ℕ
  pub after : List ℕ
  pub its_tail : tail ≡ before ++ (token ∷ after)
  pub tokens : Tokens g before
  pub not_below : g.terms ≤ token
  pub place : length before ≡ i

-- the tail is at most so many tokens of the table, and there is room for it
pub record Ready (limit : ℕ) (tail : List ℕ) (room : ℕ) (t : Table) : Type 0 where
  pub few : length tail ≤ limit
  pub tokens : Tokens t.grammar tail
  pub enough : words (count t) (length tail) ≤ room

-- of a table as numbers, a tail of at most so many tokens and so many words of room
pub data JudgesUpTo (limit : ℕ) (ns tail : List ℕ) (room : ℕ) : Judgement → Type 0 where
  refused : (c : Check) → Checks ns c → ((numbers c).0 ≡ 0 → ⊥) → JudgesUpTo limit ns tail room (handed c)
  over : (t : Table) → Good ns t → limit < length tail → JudgesUpTo limit ns tail room (refusal 30 limit)
  strange : (t : Table) (i : ℕ) → Good ns t → length tail ≤ limit → Strange t.grammar tail i → JudgesUpTo limit ns tail room (refusal 31 i)
  no_room : (t : Table) → Good ns t → length tail ≤ limit → Tokens t.grammar tail → room < words (count t) (length tail) →
      JudgesUpTo limit ns tail room (refusal 32 (words (count t) (length tail)))
  piece : (t : Table) (k : ℕ) → Good ns t → Ready limit tail room t → Judged t tail true (length tail) k →
      JudgesUpTo limit ns tail room (record { answer = 0; value = length tail; steps = k })
  stop : (t : Table) (i k : ℕ) → Good ns t → Ready limit tail room t → Judged t tail false i k →
      JudgesUpTo limit ns tail room (record { answer = 1; value = i; steps = k })

-- the judge's own limit
abbrev pub Judges : List ℕ → List ℕ → ℕ → Judgement → Type 0
Judges ns tail room j = JudgesUpTo max_tail ns tail room j

-- ---- the program

-- the place of the first token not below T
unfoldable pub first_strange : ℕ → List ℕ → Option ℕ
first_strange terms [] = none
first_strange terms (a ∷ w) = elim (ltb a terms) [
  | true ↦ elim (first_strange terms w) [ none ↦ none | some i ↦ some (suc i) ]
  | false ↦ some 0
]

-- the theory's judgement with document 01's numbers
unfoldable pub said : Out → Judgement
said o = elim o.piece [
  | true ↦ record { answer = 0; value = o.value; steps = o.steps }
  | false ↦ record { answer = 1; value = o.value; steps = o.steps }
]

-- more than the steps of a judgement
abbrev pub fuel : Table → List ℕ → ℕ
fuel t tail = suc (length tail * (count t * (2 + t.grammar.nonterms * (count t + 1))))

-- a tail, by a table that passes
unfoldable pub judge_tail : ℕ → Table → List ℕ → ℕ → Judgement
unfolding first_strange said judge judge_by take_all_tokens take_by reduce_all reduce_by choose chosen reduced long long_of long_in join weave meet grow short goto go_in reduce_on reduce_in has is_empty
judge_tail limit t tail room = elim (leb (length tail) limit) [
  | false ↦ refusal 30 limit
  | true ↦ elim (first_strange t.grammar.terms tail) [
    | some i ↦ refusal 31 i
    | none ↦ elim (leb (words (count t) (length tail)) room) [
      | false ↦ refusal 32 (words (count t) (length tail))
      | true ↦ said (judge (fuel t tail) t tail)
    ]
  ]
]

-- a tail, by a table with the check's answer
unfoldable pub judge_as : ℕ → Table → List ℕ → ℕ → Answer → Judgement
unfolding judge_tail numbers told
judge_as limit t tail room Answer.passes = judge_tail limit t tail room
judge_as limit t tail room (Answer.not-reduced v) = handed (told t (Answer.not-reduced v))
judge_as limit t tail room (Answer.ring v) = handed (told t (Answer.ring v))
judge_as limit t tail room (Answer.broken k s) = handed (told t (Answer.broken k s))

-- the lines first, then the table, then the tail
unfoldable pub outcome_up_to : ℕ → List ℕ → List ℕ → ℕ → Judgement
unfolding read_numbers checks judge_as numbers
outcome_up_to limit ns tail room = elim (read_numbers ns) [
  | Lined.over ↦ handed (Err Fault.TooLong)
  | Lined.unfit n ↦ handed (Err (Fault.Unfit n))
  | Lined.fine d ↦ judge_as limit (table_of d) tail room (checks (table_of d))
]

-- the judge's own limit
unfoldable pub judge_outcome : List ℕ → List ℕ → ℕ → Judgement
unfolding outcome_up_to
judge_outcome ns tail room = outcome_up_to max_tail ns tail room

-- ---- the room

-- zeros on the first words, and the rest as before
abbrev pub cleared : ℕ → List ℕ → List ℕ
cleared n room = replicate n 0 ++ drop n room

-- the room afterwards: unchanged by a refusal, and else the words for the tail are zero; the check's value is the count of states
unfoldable pub room_after : List ℕ → List ℕ → List ℕ → List ℕ
unfolding judge_outcome check_outcome numbers
room_after ns tail room = elim (ltb (judge_outcome ns tail (length room)).answer 2) [
  | true ↦ cleared (words (numbers (check_outcome ns)).1 (length tail)) room
  | false ↦ room
]
