-- `condition_4::breaks_4` meets its contract: the search finds the lowest state that does not keep the condition.
use Rattle.std.proofs.Common.{rules, tests}
use Rattle.std.proofs.lemmas.Iterator.{first_from_Range}
use Rattle.table.specs.Checks.{Keeps}
use Rattle.table.specs.Conditions.{found_lowest}
use Rattle.table.specs.NotedTable.{table_of}
use Rattle.table.specs.Places.Step.{held_formed}
use Rattle.table.specs.Tests.Tell.{told, refutes}
use Rattle.table.proofs.FirstsTold.{reduced_told, firsts_told}
use Rattle.table.proofs.condition_4.breaks_4.Goals as goal

pub invariant_of-sets : goal.invariant_of-sets
invariant_of-sets c =
    let W = held_formed c.args.t.now.table.now.rules_held in
    record { reduced = reduced_told W c.requires.1; told = firsts_told W c.requires.1 c.requires.0 }

pub returns : goal.returns
returns c =
    let t = table_of c.args.t.now in
    found_lowest t 4 _ _ c.args.t.now.table.now.states_held.states_are
    (first_from_Range _ _ _ _ (λ s. Keeps t 4 s → ⊥) (Keeps t 4) c.find.ensures.ran
    (λ s q call. search (rules, tests, refutes))
    (λ s q call. (search (rules, tests), search (rules, tests, told))))
