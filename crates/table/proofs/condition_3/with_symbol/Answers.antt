-- `condition_3::with_symbol` meets its contract: a symbol up to the end mark is no nonterminal.
use Prim.Native.Nat.{ℕ}
use mathlib.Core.Path.{refl, ap}
use lib.Bits.{bit_or}
use borrow.Author.Tests.{le-leb, lt-leb}
use Rattle.table.specs.Conditions.Parts.{with_symbol}
use Rattle.table.proofs.condition_3.with_symbol.Goals as goal

pub returns-then-x-terms : goal.returns-then-x-terms
unfolding with_symbol
returns-then-x-terms c = rw (le-leb _ _ c.if-x-terms.true, with_symbol) refl

pub returns-else-x-terms : goal.returns-else-x-terms
unfolding with_symbol
returns-else-x-terms c =
    rw (lt-leb _ _ c.if-x-terms.false, with_symbol) (ap (λ (x : ℕ). bit_or c.args.set x) c.single.ensures)
