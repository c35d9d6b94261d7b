-- Every call has a judgement, and only one: that of the program.
use Rattle.std.specs.Prelude.{Ok, Err}
use Rattle.table.specs.declared.Fault.{Fault}
use Rattle.std.specs.Prelude.{ℕ, suc, ◌≤◌, ◌≡◌, Bool, false, List, [], ◌∷◌, ◌++◌, ltb}
use Rattle.std.proofs.Common.{arith, sym, ◌∙◌, subst}
use Rattle.std.proofs.Math.Path.{refl, ap}
use Rattle.std.proofs.Math.Bool.{true}
use Rattle.std.proofs.Math.Option.{Option, none, some}
use Rattle.std.proofs.Math.ListN.{length}
use Rattle.std.proofs.Math.Dec.{leb}
use borrow.Author.Tests.{leb-true, leb-false, le-leb, lt-leb, ltb-true, ltb-false, lt-ltb, le-ltb}
use Rattle.theory.specs.Grammar.{Grammar, Tokens, empty, token}
use Rattle.theory.specs.Table.{Table, Passes, count}
use Rattle.theory.specs.Forest.{Judged}
use Rattle.theory.proofs.Sound.{judged_all}
use Rattle.theory.proofs.Demands.{agree}
use Rattle.theory.specs.Run.{says, judge}
use Rattle.theory.proofs.Run.Right.{judge-right}
use Rattle.lines.specs.Basics.{never, impossible}
use Rattle.lines.specs.Limits.{max_tail}
use Rattle.lines.specs.Lines.{Lined, read_numbers, table_of}
use Rattle.table.specs.Checks.{Answer, Checked}
use Rattle.table.specs.Run.{checks}
use Rattle.table.specs.Run.Computed.{passed}
use Rattle.table.specs.Check.{Gets, Checks, numbers, told, check_outcome}
use Rattle.table.specs.Check.{Check}
use Rattle.judge.specs.declared.Judgement.{Judgement}
use Rattle.table.specs.Check.Exact.{got, gets, unread, only as only-check}
use Rattle.judge.specs.Judge.{handed, words, Good, Strange, Ready, JudgesUpTo, Judges, first_strange, said, fuel, judge_tail, judge_as, outcome_up_to, judge_outcome}

-- ---- the first token not below T

strange_tells : (g : Grammar) (tail : List ℕ) (i : ℕ) → first_strange g.terms tail ≡ some i → Strange g tail i
unfolding first_strange
strange_tells g [] i e = never cc
strange_tells g (a ∷ w) i e = at (ltb a g.terms) refl (first_strange g.terms w) refl (strange_tells g w)
  where
    at : (b : Bool) → ltb a g.terms ≡ b → (o : Option ℕ) → first_strange g.terms w ≡ o → ((j : ℕ) → first_strange g.terms w ≡ some j → Strange g w j) → Strange g (a ∷ w) i
    at false p o q ih =
        let h : ◌≡◌ {A = Option ℕ} (some 0) (some i) = rw (p, first_strange) at e in
        record { before = []; token = a; after = w; its_tail = refl; tokens = empty; not_below = ltb-false a g.terms p; place = cc }
    at true p none q ih = let h : ◌≡◌ {A = Option ℕ} none (some i) = rw q at (rw (p, first_strange) at e) in never cc
    at true p (some j) q ih =
        let h : ◌≡◌ {A = Option ℕ} (some (suc j)) (some i) = rw q at (rw (p, first_strange) at e) in
        let k : suc j ≡ i = cc in
        let s = ih j q in
        record {
          before = a ∷ s.before;
          token = s.token;
          after = s.after;
          its_tail = ap (λ (x : List ℕ). a ∷ x) s.its_tail;
          tokens = token (ltb-true a g.terms p) s.tokens;
          not_below = s.not_below;
          place = ap suc s.place ∙ k;
        }

none-tells : (g : Grammar) (tail : List ℕ) → first_strange g.terms tail ≡ none → Tokens g tail
unfolding first_strange
none-tells g [] e = empty
none-tells g (a ∷ w) e = at (ltb a g.terms) refl (first_strange g.terms w) refl (none-tells g w)
  where
    at : (b : Bool) → ltb a g.terms ≡ b → (o : Option ℕ) → first_strange g.terms w ≡ o → (first_strange g.terms w ≡ none → Tokens g w) → Tokens g (a ∷ w)
    at false p o q ih = let h : ◌≡◌ {A = Option ℕ} (some 0) none = rw (p, first_strange) at e in never cc
    at true p none q ih = token (ltb-true a g.terms p) (ih q)
    at true p (some j) q ih = let h : ◌≡◌ {A = Option ℕ} (some (suc j)) none = rw q at (rw (p, first_strange) at e) in never cc

tokens_none : {g : Grammar} {tail : List ℕ} → Tokens g tail → first_strange g.terms tail ≡ none
unfolding first_strange
tokens_none empty = refl
tokens_none {g} (token {t = a} {w = w} l ts) = rw (lt-ltb a g.terms l, first_strange) (rw (tokens_none ts) refl)

front_strange : {g : Grammar} {before : List ℕ} → Tokens g before → (a : ℕ) (after : List ℕ) → g.terms ≤ a → first_strange g.terms (before ++ (a ∷ after)) ≡ some (length before)
unfolding first_strange
front_strange {g} empty a after h = rw (le-ltb a g.terms h, first_strange) refl
front_strange {g} (token {t = b} {w = w} l ts) a after h = rw (lt-ltb b g.terms l, first_strange) (rw (front_strange ts a after h) refl)

strange_told : (g : Grammar) (tail : List ℕ) (i : ℕ) → Strange g tail i → first_strange g.terms tail ≡ some i
strange_told g tail i s =
    ap (first_strange g.terms) s.its_tail ∙ (front_strange s.tokens s.token s.after s.not_below ∙ ap {B = Option ℕ} some s.place)

-- ---- a tail, by a table that passes

-- the program says the judgement
judged_said : (t : Table) → Passes t → (tail : List ℕ) {v : Bool} {i k : ℕ} → Tokens t.grammar tail → Judged t tail v i k → judge (fuel t tail) t tail ≡ says v i k
judged_said t p tail {v} {i} {k} ts y =
    let (v', i', k', e, y') = judge-right t p tail ts (fuel t tail) (omega arith) in
    let (a, b, c) = agree t p y' y in
    e ∙ (λ n. says (a n) (b n) (c n))

module _ (limit : ℕ) (ns tail : List ℕ) (room : ℕ) where
  ready : (t : Table) → Passes t → Ready limit tail room t → {v : Bool} {i k : ℕ} → Judged t tail v i k → judge_tail limit t tail room ≡ said (says v i k)
  unfolding judge_tail
  ready t p r y =
      rw (le-leb (length tail) limit r.few, judge_tail) (rw (tokens_none r.tokens) (rw (le-leb (words (count t) (length tail)) room r.enough)
      (ap said (judged_said t p tail r.tokens y))))

  -- a table that passes comes to the tail
  good : (t : Table) → Good ns t → outcome_up_to limit ns tail room ≡ judge_tail limit t tail room
  unfolding outcome_up_to judge_as
  good t g = let (p, q) = got ns t Answer.passes (g.its_numbers, Checked.sound g.passes) in rw (p, outcome_up_to) (rw q refl)

  -- what the check refuses the judge refuses so
  refused_so : (c : Check) → check_outcome ns ≡ c → ((numbers c).0 ≡ 0 → ⊥) → outcome_up_to limit ns tail room ≡ handed c
  unfolding outcome_up_to check_outcome judge_as told numbers
  refused_so c e n = at (read_numbers ns) refl
    where
      answered : (t : Table) (a : Answer) → told t a ≡ c → judge_as limit t tail room a ≡ handed c
      answered t Answer.passes u = absurd (n (sym (ap (λ (x : Check). (numbers x).0) u)))
      answered t (Answer.not-reduced v) u = ap handed u
      answered t (Answer.ring v) u = ap handed u
      answered t (Answer.broken k s) u = ap handed u

      at : (r : Lined) → read_numbers ns ≡ r → outcome_up_to limit ns tail room ≡ handed c
      at Lined.over p = rw (p, outcome_up_to) (ap handed (rw (p, check_outcome) at e))
      at (Lined.unfit m) p = rw (p, outcome_up_to) (ap handed (rw (p, check_outcome) at e))
      at (Lined.fine d) p = rw (p, outcome_up_to) (answered (table_of d) (checks (table_of d)) (rw (p, check_outcome) at e))

  -- ---- the theorems

  -- the relation allows no other judgement
  pub only : (j : Judgement) → JudgesUpTo limit ns tail room j → outcome_up_to limit ns tail room ≡ j
  unfolding judge_tail said
  only j (JudgesUpTo.refused c h n) = refused_so c (only-check ns c h) n
  only j (JudgesUpTo.over t g h) = good t g ∙ rw (lt-leb (length tail) limit h, judge_tail) refl
  only j (JudgesUpTo.strange t i g l s) = good t g ∙ rw (le-leb (length tail) limit l, judge_tail) (rw (strange_told t.grammar tail i s) refl)
  only j (JudgesUpTo.no_room t g l ts h) = good t g ∙
      rw (le-leb (length tail) limit l, judge_tail) (rw (tokens_none ts) (rw (lt-leb (words (count t) (length tail)) room h) refl))
  only j (JudgesUpTo.piece t k g r y) = good t g ∙ ready t g.passes r y
  only j (JudgesUpTo.stop t i k g r y) = good t g ∙ ready t g.passes r y

  -- any two judgements that the relation allows are equal
  pub unique : (j j' : Judgement) → JudgesUpTo limit ns tail room j → JudgesUpTo limit ns tail room j' → j ≡ j'
  unique j j' h h' = sym (only j h) ∙ only j' h'

  by_tail : (t : Table) → Good ns t → JudgesUpTo limit ns tail room (judge_tail limit t tail room)
  unfolding judge_tail said
  by_tail t g = few (leb (length tail) limit) refl
    where
      enough : length tail ≤ limit → Tokens t.grammar tail → (b : Bool) → leb (words (count t) (length tail)) room ≡ b → JudgesUpTo limit ns tail room (judge_tail limit t tail room)
      enough l ts true p = verdict (judge-right t g.passes tail ts (fuel t tail) (omega arith))
        where
          r : Ready limit tail room t
          r = record { few = l; tokens = ts; enough = leb-true (words (count t) (length tail)) room p }

          verdict : ((v : Bool) × (i : ℕ) × (k : ℕ) × (judge (fuel t tail) t tail ≡ says v i k) × Judged t tail v i k) → JudgesUpTo limit ns tail room (judge_tail limit t tail room)
          verdict (true, i, k, e, y) =
              let z = judged_all y refl in
              rw (ready t g.passes r y) (rw z (JudgesUpTo.piece t k g r (subst (λ x. Judged t tail true x k) z y)))
          verdict (false, i, k, e, y) = rw (ready t g.passes r y) (JudgesUpTo.stop t i k g r y)
      enough l ts false p =
          rw (le-leb (length tail) limit l, judge_tail) (rw (tokens_none ts) (rw p (JudgesUpTo.no_room t g l ts (leb-false (words (count t) (length tail)) room p))))

      tokens : length tail ≤ limit → (o : Option ℕ) → first_strange t.grammar.terms tail ≡ o → JudgesUpTo limit ns tail room (judge_tail limit t tail room)
      tokens l (some i) p = rw (le-leb (length tail) limit l, judge_tail) (rw p (JudgesUpTo.strange t i g l (strange_tells t.grammar tail i p)))
      tokens l none p = enough l (none-tells t.grammar tail p) (leb (words (count t) (length tail)) room) refl

      few : (b : Bool) → leb (length tail) limit ≡ b → JudgesUpTo limit ns tail room (judge_tail limit t tail room)
      few true p = tokens (leb-true (length tail) limit p) (first_strange t.grammar.terms tail) refl
      few false p = rw (p, judge_tail) (JudgesUpTo.over t g (leb-false (length tail) limit p))

  by_answer : (t : Table) (a : Answer) → Gets ns t a → JudgesUpTo limit ns tail room (judge_as limit t tail room a)
  unfolding judge_as told numbers
  by_answer t Answer.passes (f, c) = by_tail t (record { its_numbers = f; passes = passed c })
  by_answer t (Answer.not-reduced v) g = JudgesUpTo.refused (Err (Fault.NotReduced v)) (Checks.unreduced t v g) (λ e. omega arith)
  by_answer t (Answer.ring v) g = JudgesUpTo.refused (Err (Fault.Ring v)) (Checks.ringed t v g) (λ e. omega arith)
  by_answer t (Answer.broken k s) g = JudgesUpTo.refused (Err (Fault.Broken k s)) (Checks.broken t k s g) (λ e. omega arith)

  -- the relation holds of the program's judgement: there is one for every call
  pub holds : JudgesUpTo limit ns tail room (outcome_up_to limit ns tail room)
  unfolding outcome_up_to numbers
  holds = at (read_numbers ns) refl
    where
      at : (r : Lined) → read_numbers ns ≡ r → JudgesUpTo limit ns tail room (outcome_up_to limit ns tail room)
      at Lined.over p = rw (p, outcome_up_to) (JudgesUpTo.refused (Err Fault.TooLong) (Checks.over ((unread ns Lined.over p).0 refl)) (λ e. omega arith))
      at (Lined.unfit n) p =
          let (l, s) = (unread ns (Lined.unfit n) p).1 n refl in
          rw (p, outcome_up_to) (JudgesUpTo.refused (Err (Fault.Unfit n)) (Checks.unfit n l s) (λ e. omega arith))
      at (Lined.fine d) p = rw (p, outcome_up_to) (by_answer (table_of d) (checks (table_of d)) (gets ns d p))

-- a judgement by the judge's own limit
pub judges : (ns tail : List ℕ) (room : ℕ) → Judges ns tail room (judge_outcome ns tail room)
unfolding judge_outcome
judges ns tail room = holds max_tail ns tail room

-- and the only one
pub judges_only : (ns tail : List ℕ) (room : ℕ) (j : Judgement) → Judges ns tail room j → judge_outcome ns tail room ≡ j
unfolding judge_outcome
judges_only ns tail room j h = only max_tail ns tail room j h

-- where the check passes there is a table that passes, and the check's value is its count of states
pub passing : {ns : List ℕ} {m : ℕ} → Checks ns (Ok m) → (t : Table) × Good ns t × (count t ≡ m)
passing (Checks.passes t (f, c)) = (t, record { its_numbers = f; passes = passed c }, refl)

-- a tail within a lower limit is judged by that limit as by the higher one
pub narrow : {limit lower : ℕ} {ns tail : List ℕ} {room : ℕ} {j : Judgement} → lower ≤ limit → length tail ≤ lower → JudgesUpTo limit ns tail room j →
    JudgesUpTo lower ns tail room j
narrow o l (JudgesUpTo.refused c h n) = JudgesUpTo.refused c h n
narrow o l (JudgesUpTo.over t g h) = impossible (omega arith)
narrow o l (JudgesUpTo.strange t i g h s) = JudgesUpTo.strange t i g l s
narrow o l (JudgesUpTo.no_room t g h ts r) = JudgesUpTo.no_room t g l ts r
narrow o l (JudgesUpTo.piece t k g r y) = JudgesUpTo.piece t k g (record { few = l; tokens = r.tokens; enough = r.enough }) y
narrow o l (JudgesUpTo.stop t i k g r y) = JudgesUpTo.stop t i k g (record { few = l; tokens = r.tokens; enough = r.enough }) y
