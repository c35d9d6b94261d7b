-- What the contract of the check, as it stands in the code, determines: any two answers that it allows are equal.
use mathlib.Core.Path.{◌≡◌}
use contract.Lifetimes.{Lfts}
use Rattle.table.specs.Check.Exact.{unique as unique-answer}
use Rattle.table.specs.Check.{Check}
use Rattle.table.proofs.check_table.Reads as C

pub unique : (κs : Lfts 1) (a : _) (r r' : Check) (e e' : _) → C.Learnt κs a r e → C.Learnt κs a r' e' → r ≡ r'
unique κs a r r' e e' p q = unique-answer a.0.now r r' p q
