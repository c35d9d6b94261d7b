-- `ahead_fits` meets its contract: each member and the next tell whether the set rises, and then the last tells for all.
use Rattle.std.proofs.Common.{◌≡◌, ◌∙◌, sym, rules, tests, arith}
use Rattle.std.proofs.lemmas.Grind.{common_steps}
use Rattle.std.proofs.lemmas.List.Sorted.{answers_always}
use Rattle.std.proofs.lemmas.Option.{gets}
use Rattle.std.specs.Prelude.{ltb}
use Rattle.lines.proofs.TestLaws.{last_in, rising_told, falling_told}
use Rattle.lines.proofs.fits.ahead_fits.Goals as goal

pub returns-then-is_sorted_by : goal.returns-then-is_sorted_by
returns-then-is_sorted_by c =
    let a = c.args in
    let told = c.is_sorted_by.ensures.cases ltb (answers_always _ _ _ (λ f x r g h. search (rules, tests))) in
    let last : c.is_none_or.result ≡ last_in a.terms a.ahead.now = grind (arith, common_steps, gets) in
    last ∙ sym (rising_told a.terms a.ahead.now _ told c.if-is_sorted_by.true)

pub returns-else-is_sorted_by : goal.returns-else-is_sorted_by
returns-else-is_sorted_by c =
    let a = c.args in
    let told = c.is_sorted_by.ensures.cases ltb (answers_always _ _ _ (λ f x r g h. search (rules, tests))) in
    c.if-is_sorted_by.false ∙ sym (falling_told a.terms a.ahead.now _ told c.if-is_sorted_by.false)
