-- `word`: what comes after the digits of a number.
use Rattle.sheet.specs.Text.Readings.{word_other, word_last, word_more}
use Rattle.sheet.specs.Text.Values.{number_bad}
use Rattle.std.proofs.Common.{◌≡◌, ◌≤◌, length, get_or, arith}
use Rattle.std.proofs.lemmas.Slice.{between_to_end}
use Rattle.sheet.proofs.text.word.Goals as goal
use Rattle.sheet.proofs.text.word.Goals.{in_default-via-then-rest-lt1, in_default-via-else-rest-lt1+in_default-1}

pub returns-in_err-value : goal.returns-in_err-value
returns-in_err-value c = rw c.from_residual.ensures (number_bad c.args.s.now c.in_err-value.ensures)

pub returns-in-10 : goal.returns-in-10
returns-in-10 c =
    let w = c.in_ok-value in
    let o = between_to_end w.rest.now 1 (length w.rest.now) (omega arith) in
    word_last c.args.s.now w.ensures.1 w.value w.ensures.0 c.in-10.len_at_least o (omega arith)

pub returns-in-32 : goal.returns-in-32
returns-in-32 c =
    let w = c.in_ok-value in
    let o = between_to_end w.rest.now 1 (length w.rest.now) (omega arith) in
    word_more c.args.s.now w.ensures.1 w.value w.ensures.0 c.in-32.len_at_least o (omega arith)

pub returns-in_default : goal.returns-in_default
returns-in_default c =
    let r = c.in_ok-value.rest.now in
    let a : 1 ≤ length r → get_or r 0 0 ≡ 10 → ⊥ =
    elim c.in_default.branch [
      | in_default-via-then-rest-lt1 w ↦ λ h e. grind arith
      | in_default-via-else-rest-lt1+in_default-1 w ↦ λ h e. grind arith
    ] in
    let b : 1 ≤ length r → get_or r 0 0 ≡ 32 → ⊥ =
    elim c.in_default.branch [
      | in_default-via-then-rest-lt1 w ↦ λ h e. grind arith
      | in_default-via-else-rest-lt1+in_default-1 w ↦ λ h e. grind arith
    ] in
    word_other c.args.s.now c.in_ok-value.ensures.1 a b
