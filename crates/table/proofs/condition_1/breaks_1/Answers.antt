-- `condition_1::breaks_1` meets its contract: the search finds the lowest state that does not keep the condition.
use Rattle.std.proofs.Common.{rules, tests}
use Rattle.std.proofs.lemmas.Iterator.{first_from_Range}
use Rattle.table.specs.Checks.{Keeps}
use Rattle.table.specs.Conditions.{found_lowest}
use Rattle.table.specs.Places.{table_in}
use Rattle.table.specs.Tests.Tell.{told, refutes}
use Rattle.table.proofs.condition_1.breaks_1.Goals as goal

pub returns : goal.returns
returns c =
    let t = table_in c.args.t.now.numbers.now in
    found_lowest t 1 _ _ c.args.t.now.states_held.states_are
    (first_from_Range _ _ _ _ (λ s. Keeps t 1 s → ⊥) (Keeps t 1) c.find.ensures.ran
    (λ s q call. search (rules, tests, refutes))
    (λ s q call. (search (rules, tests), search (rules, tests, told))))
