-- From what each function finds to the relation: the refusals one by one, and the forest's judgement with the room cleared.
use Rattle.std.specs.Prelude.{Option, Some, None, Ok, Err}
use Rattle.table.specs.declared.Fault.{Fault}
use mathlib.Core.Path.{◌≡◌, ◌∙◌, refl, sym, ap, subst}
use mathlib.Core.List.{List, ◌++◌}
use Prim.Native.Nat.{ℕ, ◌≤◌, ◌<◌}
use native.Mathlib.Omega.{arith}
use lib.ListN.{length, get_or, take, drop, replicate}
use lib.Seq.{length-take-le, drop_at}
use Rattle.theory.specs.Table.{Table, count}
use Rattle.lines.specs.Basics.{impossible}
use Rattle.lines.specs.Limits.{max_tail}
use Rattle.lines.specs.Lines.{flat}
use Rattle.lines.specs.Ranges.{FitLines}
use Rattle.table.specs.Check.{Checks, numbers}
use Rattle.table.specs.Check.Exact.{one_table}
use Rattle.table.specs.Check.{Check}
use Rattle.forest.specs.Words.{max_words}
use Rattle.forest.specs.Enough.{words_most}
use Rattle.judge.specs.declared.Judgement.{Judgement}
use Rattle.judge.specs.Judge.{refusal, handed, words, Good, JudgesUpTo, Judges, cleared}
use Rattle.judge.specs.Judge.Exact.{passing}
use Rattle.judge.specs.Judge.Demands.{refused_high}
use Rattle.judge.specs.Judge.Into.{JudgesInto}
use Rattle.judge.specs.Tails.{FirstNot, none_found, one_found}
use Rattle.judge.specs.Runs.{Says, piece, stop}
use Rattle.judge.specs.Ready.{SomeReady, Said}

-- ---- refusals

-- a refusal leaves the room
refused_into : (ns tail room : List ℕ) (j r : Judgement) → r ≡ j → Judges ns tail (length room) j → 2 ≤ j.answer → JudgesInto ns tail room r room
refused_into ns tail room j r e h l = subst (λ (x : Judgement). JudgesInto ns tail room x room) (sym e)
    (record { judgement = h; kept = λ k. refl; zeroed = λ k. impossible (omega arith) })

-- an answer of the check that is taken apart as no pass has a number
pub no_pass : (c : Check) → ((m : ℕ) → c ≡ Ok m → ⊥) → (numbers c).0 ≡ 0 → ⊥
unfolding numbers
no_pass (Ok m) h e = absurd (h m refl)
no_pass (Err Fault.TooLong) h e = omega arith
no_pass (Err (Fault.Unfit n)) h e = omega arith
no_pass (Err (Fault.NotReduced v)) h e = omega arith
no_pass (Err (Fault.Ring v)) h e = omega arith
no_pass (Err (Fault.Broken k s)) h e = omega arith

-- what the check refuses
pub fault_into : {ns : List ℕ} (tail room : List ℕ) (f : Fault) {r : Judgement} → Checks ns (Err f) → r ≡ handed (Err f) → JudgesInto ns tail room r room
fault_into {ns} tail room f {r} h e =
    let o = no_pass (Err f) (λ m z. cc) in
    refused_into ns tail room (handed (Err f)) r e (JudgesUpTo.refused (Err f) h o) (refused_high (Err f) o)

-- ---- a table that passes

-- the second number of a table is its count of kinds
terms-at : {ns : List ℕ} {t : Table} → FitLines ns t → get_or ns 1 0 ≡ t.grammar.terms
unfolding flat
terms-at f = ap (λ (x : List ℕ). get_or x 1 0) f.its_numbers

-- there is a second number
pub some_numbers : {ns : List ℕ} {m : ℕ} → Checks ns (Ok m) → 1 < length ns
unfolding flat
some_numbers P = let (t, g, s) = passing P in let e = ap length g.its_numbers.its_numbers in omega arith

-- the words of room that a tail calls for are a small number
pub words_small : {ns : List ℕ} {m : ℕ} (tail : List ℕ) → Checks ns (Ok m) → length tail ≤ max_tail → words m (length tail) ≤ max_words
words_small {m = m} tail P few =
    let (t, g, s) = passing P in
    let c = g.its_numbers.in_range.state_count in
    words_most m (length tail) (omega arith) few

module _ {ns : List ℕ} (tail room : List ℕ) {m : ℕ} (P : Checks ns (Ok m)) where
  -- too many tokens
  pub over_into : {r : Judgement} → max_tail < length tail → r ≡ refusal 30 max_tail → JudgesInto ns tail room r room
  over_into {r} h e = let (t, g, s) = passing P in refused_into ns tail room (refusal 30 max_tail) r e (JudgesUpTo.over t g h) (omega arith)

  module _ (few : length tail ≤ max_tail) {terms : ℕ} (second : terms ≡ get_or ns 1 0) where
    -- what was searched for, with the table's count of kinds
    by_table : {t : Table} (found : Option ℕ) → Good ns t → FirstNot terms tail found → FirstNot t.grammar.terms tail found
    by_table found g F = subst (λ (x : ℕ). FirstNot x tail found) (second ∙ terms-at g.its_numbers) F

    -- a token not below T
    pub strange_into : (i : ℕ) → FirstNot terms tail (Some i) → {r : Judgement} → r ≡ refusal 31 i → JudgesInto ns tail room r room
    strange_into i F {r} e =
        let (t, g, s) = passing P in
        refused_into ns tail room (refusal 31 i) r e (JudgesUpTo.strange t i g few (one_found t.grammar tail i (by_table (Some i) g F))) (omega arith)

    module _ (all : FirstNot terms tail None) where
      -- too little room
      pub no_room_into : {r : Judgement} → length room < words m (length tail) → r ≡ refusal 32 (words m (length tail)) → JudgesInto ns tail room r room
      no_room_into {r} h e =
          let (t, g, s) = passing P in
          let w : words (count t) (length tail) ≡ words m (length tail) = ap (λ (x : ℕ). words x (length tail)) s in
          refused_into ns tail room (refusal 32 (words (count t) (length tail))) r (e ∙ ap (refusal 32) (sym w))
          (JudgesUpTo.no_room t g few (none_found t.grammar tail (by_table None g all)) (omega arith)) (omega arith)

      -- the tail is in order
      pub some_ready : words m (length tail) ≤ length room → SomeReady ns tail (length room) m (words m (length tail))
      some_ready h =
          let (t, g, s) = passing P in
          record {
            t = t;
            good = g;
            states = sym s;
            ready = record {
              few = few;
              tokens = none_found t.grammar tail (by_table None g all);
              enough = subst (λ (x : ℕ). words x (length tail) ≤ length room) (sym s) h;
            };
            called_for = refl;
          }

-- ---- the run

module _ {ns tail : List ℕ} (before : List ℕ) {m k : ℕ} (S : SomeReady ns tail (length before) m k) where
  -- the words called for are there
  pub words_there : k ≤ length before
  words_there = subst (λ (x : ℕ). x ≤ length before) (sym (S.called_for ∙ ap (λ (x : ℕ). words x (length tail)) S.states)) S.ready.enough

  -- a judgement that was told is no refusal
  told_low : {t : Table} {j : Judgement} → Says t tail j → j.answer < 2
  told_low (piece n y) = omega arith
  told_low (stop i n y) = omega arith

  -- it is the judge's
  told_judges : {j : Judgement} → Says S.t tail j → Judges ns tail (length before) j
  told_judges (piece n y) = JudgesUpTo.piece S.t n S.good S.ready y
  told_judges (stop i n y) = JudgesUpTo.stop S.t i n S.good S.ready y

  -- with the words cleared it is the outcome, whatever the run left on them
  pub ready_into : {j : Judgement} (part : List ℕ) {after : List ℕ} → length part ≡ length (take k before) →
      Said ns tail j → after ≡ replicate k 0 ++ drop k (part ++ drop k before) → JudgesInto ns tail before j after
  ready_into {j} part l y e =
      let z = y S.t S.good in
      record {
        judgement = told_judges z;
        kept = λ h. impossible (omega (arith, told_low z));
        zeroed = λ h t g. e ∙
            ap (λ (x : List ℕ). replicate k 0 ++ x) (drop_at part (drop k before) k (l ∙ length-take-le k before words_there)) ∙
            ap (λ (x : ℕ). cleared x before) (S.called_for ∙ ap (λ (x : ℕ). words x (length tail)) S.states ∙
            ap (λ (u : Table). words (count u) (length tail)) (one_table S.good.its_numbers g.its_numbers));
      }
