-- What the contracts of `read` and `read_tail`, as they stand in the code, determine: any two outcomes that they allow are equal, the slice's too.
use Prim.Native.Nat.{ℕ}
use mathlib.Core.Path.{◌≡◌, refl, sym, ap, ◌∙◌}
use mathlib.Core.Bool.{true, false}
use lib.Dec.{eqb}
use contract.Lifetimes.{Lfts}
use Rattle.sheet.specs.Reads.{answer_of}
use Rattle.sheet.specs.Reads.Slices.{unique_into}
use Rattle.sheet.specs.Tail.Exact.{unique_tail}
use Rattle.std.specs.Prelude.{Result, Ok, Err}
use Rattle.sheet.specs.declared.ReadError.{ReadError}
use Rattle.sheet.specs.declared.TailError.{TailError}
use Rattle.sheet.proofs.read.Reads as R
use Rattle.sheet.proofs.read_tail.Reads as T

-- the answer of a number and a value
answer_back : ℕ × ℕ → Result ℕ ReadError
answer_back o =
    elim (eqb o.0 0) [
      | true ↦ Ok o.1
      | false ↦ elim (eqb o.0 10) [
        | true ↦ Err ReadError.TooLong
        | false ↦ elim (eqb o.0 11) [
          | true ↦ Err (ReadError.Form o.1)
          | false ↦ elim (eqb o.0 12) [ true ↦ Err (ReadError.Range o.1) | false ↦ Err (ReadError.Short o.1) ]
        ]
      ]
    ]

back_again : (r : Result ℕ ReadError) → answer_back (answer_of r) ≡ r
unfolding answer_back answer_of
back_again (Ok n) = refl
back_again (Err ReadError.TooLong) = refl
back_again (Err (ReadError.Form n)) = refl
back_again (Err (ReadError.Range n)) = refl
back_again (Err (ReadError.Short n)) = refl

-- two answers of one number and value are one
pub answer_once : (r r' : Result ℕ ReadError) → answer_of r ≡ answer_of r' → r ≡ r'
answer_once r r' e = sym (back_again r) ∙ ap answer_back e ∙ back_again r'

-- any two outcomes that the contract of `read` allows are equal: the answer, and what the slice holds at the end
pub unique : (κs : Lfts 2) (a : _) (r r' : Result ℕ ReadError) (e e' : _) → R.Learnt κs a r e → R.Learnt κs a r' e' →
    (r ≡ r') × (e.1.0.now ≡ e'.1.0.now)
unique κs a r r' e e' p q =
    let (x, y) = unique_into a.0.now a.1.0.now (answer_of r) (answer_of r') e.1.0.now e'.1.0.now p q in
    (answer_once r r' x, y)

-- any two outcomes that the contract of `read_tail` allows are equal: what is told, and what the slice holds at the end
pub tail_unique : (κs : Lfts 2) (a : _) (r r' : Result ℕ TailError) (e e' : _) → T.Learnt κs a r e →
    T.Learnt κs a r' e' → (r ≡ r') × (e.1.0.now ≡ e'.1.0.now)
tail_unique κs a r r' e e' p q = unique_tail a.0.now a.1.0.now r r' e.1.0.now e'.1.0.now p q
