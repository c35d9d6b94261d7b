-- `faults::lowest_fault` meets its contract: the lowest number that is not in both sets.
use Prim.Native.Nat.{◌+◌}
use native.Mathlib.Omega.{arith}
use mathlib.Core.Path.{◌≡◌, subst}
use lib.Count.{count_trailing_zeros, trailing_le}
use lib.Bits.{bit_and}
use Rattle.theory.specs.Grammar.{Productive, Reachable}
use Rattle.table.specs.Places.Step.{held_nonterms}
use Rattle.table.specs.Places.{grammar_in}
use Rattle.table.specs.Notions.{nonterm}
use Rattle.table.specs.Sets.{SetOf}
use Rattle.table.specs.Checks.{Lowest, NotReduced}
use Rattle.table.proofs.Lowest.{shared_fits, fault_at, fault_none}
use Rattle.table.proofs.Bits.{lowest_out}
use Rattle.table.proofs.faults.lowest_fault.Goals as goal

pub overflow_add-k : goal.overflow_add-k
overflow_add-k c = let b = c.set_of-reachable.ensures.below in
    record { fits = shared_fits _ c.set_of-productive.result c.set_of-reachable.result (held_nonterms c.args.t.now.rules_held) b }

pub overflow_cast-k : goal.overflow_cast-k
overflow_cast-k c = let l = trailing_le 64 (bit_and c.set_of-productive.result c.set_of-reachable.result + 1) in omega arith

pub returns-then-k-t : goal.returns-then-k-t
returns-then-k-t c = let g = grammar_in c.args.t.now.numbers.now in
    let H = c.args.t.now.rules_held in
    let ps = c.set_of-productive.result in
    let rs = c.set_of-reachable.result in
    let n = held_nonterms H in
    let e = H.nonterms_are in
    let t = H.terms_are in
    let l = c.if-k-t.true in
    let k = count_trailing_zeros 64 (bit_and ps rs + 1) in
    let v : nonterm g k ≡ c.args.t.now.sizes.terms + 1 + k = omega arith in
    subst (Lowest (NotReduced g)) v
    (fault_at g ps rs k (subst (λ m. SetOf (λ j. Productive g (nonterm g j)) m ps) e c.set_of-productive.ensures)
    (subst (λ m. SetOf (λ j. Reachable g (nonterm g j)) m rs) e c.set_of-reachable.ensures) (lowest_out 64 (bit_and ps rs)) (omega arith) (omega arith))

pub returns : goal.returns
returns c = let g = grammar_in c.args.t.now.numbers.now in
    let H = c.args.t.now.rules_held in
    let ps = c.set_of-productive.result in
    let rs = c.set_of-reachable.result in
    let e = H.nonterms_are in
    let l = c.if-k-t.false in
    fault_none g ps rs (count_trailing_zeros 64 (bit_and ps rs + 1)) (subst (λ m. SetOf (λ j. Productive g (nonterm g j)) m ps) e c.set_of-productive.ensures)
    (subst (λ m. SetOf (λ j. Reachable g (nonterm g j)) m rs) e c.set_of-reachable.ensures) (lowest_out 64 (bit_and ps rs)) (omega arith)
