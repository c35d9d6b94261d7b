-- The judgement with the room: one relation of the judgement and of every word of the room afterwards, and one outcome only.
use Rattle.std.specs.Prelude.{Ok}
use Rattle.std.specs.Prelude.{ℕ, ◌≤◌, ◌<◌, ◌≡◌, List, length}
use Rattle.std.proofs.Common.{arith, sym, ap, ◌∙◌}
use Rattle.std.proofs.Math.Decide.{dec_lt}
use Rattle.std.proofs.Math.Path.{refl}
use Rattle.std.proofs.Math.Dec.{ltb}
use borrow.Author.Tests.{lt-ltb, le-ltb}
use Rattle.theory.specs.Table.{Table, count}
use Rattle.table.specs.Checks.{Checked}
use Rattle.table.specs.Check.{Checks, numbers}
use Rattle.table.specs.Check.Exact.{only as only-check}
use Rattle.judge.specs.declared.Judgement.{Judgement}
use Rattle.judge.specs.Judge.{words, Good, Judges, judge_outcome, cleared, room_after}
use Rattle.judge.specs.Judge.Exact.{judges, judges_only}
use Rattle.judge.specs.Judge.Demands.{demands}

-- The judgement of a table as numbers, a tail and a room, and the room afterwards: a refusal leaves it as it was; any other judgement leaves
-- zeros on the words for the tail, and the rest as it was.
pub record JudgesInto (ns tail before : List ℕ) (j : Judgement) (after : List ℕ) : Type 0 where
  pub judgement : Judges ns tail (length before) j
  pub kept : 2 ≤ j.answer → after ≡ before
  pub zeroed : j.answer < 2 → (t : Table) → Good ns t → after ≡ cleared (words (count t) (length tail)) before

module _ (ns tail before : List ℕ) where
  -- a refusal leaves the room as it was
  room_kept : (j : Judgement) → Judges ns tail (length before) j → 2 ≤ j.answer → room_after ns tail before ≡ before
  unfolding room_after
  room_kept j h l = rw (ap (λ (x : Judgement). ltb x.answer 2) (judges_only ns tail (length before) j h) ∙ le-ltb j.answer 2 l, room_after) refl

  -- any other judgement leaves zeros on the words for the tail, and the rest as it was
  room_cleared : (j : Judgement) → Judges ns tail (length before) j → j.answer < 2 → (t : Table) → Good ns t →
      room_after ns tail before ≡ cleared (words (count t) (length tail)) before
  unfolding room_after numbers
  room_cleared j h l t g =
      rw (ap (λ (x : Judgement). ltb x.answer 2) (judges_only ns tail (length before) j h) ∙ lt-ltb j.answer 2 l, room_after)
      (rw (only-check ns (Ok (count t)) (Checks.passes t (g.its_numbers, Checked.sound g.passes))) refl)

  -- there is an outcome: the program's
  pub holds : JudgesInto ns tail before (judge_outcome ns tail (length before)) (room_after ns tail before)
  holds =
      let h = judges ns tail (length before) in
      record { judgement = h; kept = room_kept _ h; zeroed = room_cleared _ h }

  -- and no other
  pub only : (j : Judgement) (after : List ℕ) → JudgesInto ns tail before j after →
      (judge_outcome ns tail (length before) ≡ j) × (room_after ns tail before ≡ after)
  only j after h = (judges_only ns tail (length before) j h.judgement, at (dec_lt j.answer 2))
    where
      at : Dec (j.answer < 2) → room_after ns tail before ≡ after
      at (yes l) =
          let w = demands h.judgement l in
          room_cleared j h.judgement l w.table w.good ∙ sym (h.zeroed l w.table w.good)
      at (no l) = room_kept j h.judgement (omega arith) ∙ sym (h.kept (omega arith))

  -- any two outcomes that the relation allows are equal: the judgement and every word of the room
  pub unique : (j j' : Judgement) (after after' : List ℕ) → JudgesInto ns tail before j after → JudgesInto ns tail before j' after' →
      (j ≡ j') × (after ≡ after')
  unique j j' after after' h h' =
      let (a, b) = only j after h in
      let (a', b') = only j' after' h' in
      (sym a ∙ a', sym b ∙ b')
