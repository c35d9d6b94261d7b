-- `grammar::with` meets its contract: the union with the set of one.
use Prim.Native.Nat.{ℕ}
use mathlib.Core.Path.{ap}
use lib.Bits.{bit_or}
use Rattle.table.specs.Notions.{with}
use Rattle.table.proofs.grammar.with.Goals as goal

pub returns : goal.returns
unfolding with
returns c = ap (λ (x : ℕ). bit_or c.args.set x) c.single.ensures
