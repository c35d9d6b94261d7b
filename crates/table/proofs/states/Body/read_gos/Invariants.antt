-- `Body::read_gos` meets its contract: the loop keeps what the go lines so far made of the shape.
use Prim.Native.Nat.{◌+◌, ◌≤◌}
use lib.ListN.{length}
use Rattle.table.proofs.LinesGo.{GosTo}
use Rattle.table.proofs.states.Body.read_gos.Given as goal

abbrev pub invariant-loop-done : goal.invariant-loop-done
invariant-loop-done l =
    (l.at ≤ length l.self.numbers.now) × (l.from.at + l.done ≤ l.at) ×
    GosTo l.self.numbers.now l.self.lengths.now l.self.sizes l.from.at l.count l.at l.done l.above
