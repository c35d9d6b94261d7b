-- `grammar::set_of` meets its contract: the loop keeps a part and what a round makes of it; the number rises with every round but the last, and then the set is exact.
use Prim.Native.Nat.{◌-◌, ◌^◌}
use Rattle.table.specs.Places.{grammar_in}
use Rattle.table.specs.Notions.{Part, GrownBy}
use Rattle.table.proofs.grammar.set_of.Given as goal

abbrev pub invariant-loop-next : goal.invariant-loop-next
invariant-loop-next l = Part (grammar_in l.t.numbers.now) l.notion l.set × GrownBy (grammar_in l.t.numbers.now) l.notion l.t.sizes.rules l.set l.next

abbrev pub decreases-loop-next : goal.decreases-loop-next
decreases-loop-next l = 2 ^ (grammar_in l.t.numbers.now).nonterms - l.set
