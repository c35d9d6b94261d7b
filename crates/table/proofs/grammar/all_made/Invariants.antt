-- `grammar::all_made` meets its contract: the loop keeps that all symbols passed are made.
use Prim.Native.Nat.{ℕ, ◌<◌}
use mathlib.Core.Bool.{true}
use mathlib.Core.Path.{◌≡◌}
use lib.ListN.{get_or}
use Rattle.theory.specs.Table.{rule_at}
use Rattle.table.specs.Notions.{made}
use Rattle.table.specs.Places.{grammar_in}
use Rattle.table.proofs.grammar.all_made.Given as goal

abbrev pub invariant-loop-j : goal.invariant-loop-j
invariant-loop-j l = ((k : ℕ) → k < l.j → made l.t.sizes.terms l.set (get_or (rule_at (grammar_in l.t.numbers.now) l.r).right k 0) ≡ true)
