-- `firsts::first_round` meets its contract: the loop keeps what the rules passed make of the rows.
use Prim.Native.Nat.{◌<◌}
use Rattle.table.specs.Places.{grammar_in}
use Rattle.table.specs.Firsts.{FirstGrown}
use Rattle.table.proofs.firsts.first_round.Given as goal

abbrev pub invariant-loop-r : goal.invariant-loop-r
invariant-loop-r l = FirstGrown (grammar_in l.t.numbers.now) (λ q. q < l.r) l.initial.rows l.rows l.grew
