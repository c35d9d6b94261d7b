-- `firsts::firsts` meets its contract: the loop keeps that the rows are a part, and closed once a round added nothing; every round but the last brings them nearer to their bound.
use Prim.Native.Nat.{ℕ, ◌<◌}
use mathlib.Core.Bool.{false}
use mathlib.Core.Path.{◌≡◌}
use Rattle.theory.specs.Table.{rule_at}
use Rattle.table.specs.Places.{grammar_in}
use Rattle.table.specs.Firsts.{FirstPart, FirstClosed}
use Rattle.table.proofs.FirstSets.{left}
use Rattle.table.proofs.firsts.firsts.Given as goal

abbrev pub invariant-loop-grew : goal.invariant-loop-grew
invariant-loop-grew l = FirstPart (grammar_in l.t.numbers.now) l.rows × (l.grew ≡ false → (q : ℕ) → q < l.t.sizes.rules → FirstClosed (grammar_in l.t.numbers.now) l.rows (rule_at (grammar_in l.t.numbers.now) q))

abbrev pub decreases-loop-grew : goal.decreases-loop-grew
decreases-loop-grew l = left (grammar_in l.t.numbers.now) l.rows l.grew
