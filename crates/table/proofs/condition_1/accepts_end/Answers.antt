-- `condition_1::accepts_end` meets its contract: the test of an item tells whether it has the accept rule and another
-- set.
use mathlib.Core.List.{[], ◌∷◌}
use mathlib.Core.Path.{◌≡◌, refl, subst}
use lib.ListN.{length}
use Rattle.std.proofs.Common.{rules, tests}
use Rattle.theory.specs.Table.{Item, state_at}
use Rattle.table.specs.Items.Held.{item_here}
use Rattle.table.specs.Members.{some_or_each}
use Rattle.table.specs.Places.{table_in, no_item}
use Rattle.table.specs.Tests.Tell.{tells_missed}
use Rattle.table.proofs.condition_1.accepts_end.Goals as goal

pub returns : goal.returns
returns c =
    let t = table_in c.args.t.now.numbers.now in
    let here = item_here c.args.t.now.states_held c.args.s c.requires in
    let accepts = λ (i : Item). i.rule ≡ length t.grammar.rules in
    let ends = λ (i : Item). i.ahead ≡ t.grammar.terms ∷ [] in
    tells_missed _
    (some_or_each (state_at t c.args.s).items no_item (λ i. accepts i × (ends i → ⊥)) (λ i. accepts i → ends i)
    _ c.some_item.ensures
    (λ k l p. subst (λ i. accepts i × (ends i → ⊥)) (here k l _ refl).same (search (rules, tests)))
    (λ k l p. subst (λ i. accepts i → ends i) (here k l _ refl).same (search (rules, tests))))
    (λ (i, m, (a, other)) all. other (all i m a))
