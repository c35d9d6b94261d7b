-- `Body::read_items` meets its contract: the loop keeps what the items so far made of the shape, and that their sets are noted.
use Prim.Native.Nat.{◌+◌, ◌≤◌}
use mathlib.Core.Path.{◌≡◌}
use lib.ListN.{length}
use Rattle.table.specs.States.{line_place, SetsTo}
use Rattle.table.proofs.LinesGo.{ItemsTo}
use Rattle.table.proofs.states.Body.read_items.Given as goal

abbrev pub invariant-loop-done : goal.invariant-loop-done
invariant-loop-done l =
    (l.at ≤ length l.self.numbers.now) × (l.from.at + l.done ≤ l.at) ×
    ItemsTo l.self.numbers.now l.self.lengths.now l.self.sizes l.from.at l.count l.at l.done × (l.at ≡ line_place l.self.numbers.now l.from.at l.done) ×
    SetsTo l.self.numbers.now l.self.sizes.terms l.from.at l.done l.at l.initial.sets l.sets
