-- `condition_7::no_shift` meets its contract: a go line on a kind of the set refutes it, and without one it holds.
use Prim.Native.Nat.{◌<◌}
use native.Mathlib.Omega.{arith}
use mathlib.Core.Path.{◌∙◌, ap, sym, subst}
use lib.ListN.{get_or}
use borrow.Author.Tests.{eqb-true}
use Rattle.theory.specs.Table.{Go, state_at}
use Rattle.table.specs.Tests.Tell.{tells_yes, tells_no}
use Rattle.table.specs.Sets.{In}
use Rattle.table.specs.Items.Held.{go_walk_here}
use Rattle.table.specs.Members.{mem_at, all_mem}
use Rattle.table.specs.Places.{table_in, no_go}
use Rattle.table.proofs.condition_7.no_shift.Goals as goal

pub returns-then-has : goal.returns-then-has
returns-then-has c =
    let gos = (state_at (table_in c.args.t.now.numbers.now) c.args.s).gos in
    let k = c.loop.counter in
    let here = go_walk_here c.args.t.now.states_held c.args.s c.requires c.loop.invariant.0 c.loop-test.true in
    let on = c.go_on-x.ensures ∙ ap (λ (l : Go). l.on) here.same in
    tells_no (λ none. none (get_or gos k no_go) (mem_at gos k no_go (omega arith)) (omega arith)
    (subst (In c.args.set) on (eqb-true _ _ (sym c.has.ensures ∙ c.if-has.true))))

pub returns : goal.returns
returns c =
    let gos = (state_at (table_in c.args.t.now.numbers.now) c.args.s).gos in
    let none = c.loop.invariant.1 in
    tells_yes
    (all_mem (λ l. l.on < c.args.t.now.sizes.terms → In c.args.set l.on → ⊥) gos no_go (λ j l. none j (omega arith)))
