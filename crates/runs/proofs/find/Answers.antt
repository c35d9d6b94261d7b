-- The search goes over what is left from a place on: its index k - start is index k of the whole.
use Rattle.std.proofs.Common.{arith, ap, ◌∙◌, ℕ, List, ◌≡◌, ◌-◌, ◌≤◌, drop, take, length, slice_index}
use Rattle.std.proofs.lemmas.List.{get_or-drop, take_all, length-drop}
use Rattle.runs.proofs.find.Goals as goal

-- what is left is all behind the place
left : (s : List ℕ) (start : ℕ) → take (length s - start) (drop start s) ≡ drop start s
left s start = take_all _ (drop start s) (omega (arith, length-drop start s))

there : (s : List ℕ) (start k byte : ℕ) → start ≤ k → slice_index s k ≡ byte →
    slice_index (take (length s - start) (drop start s)) (k - start) ≡ byte
there s start k byte l e =
    ap (λ xs. slice_index xs (k - start)) (left s start) ∙ get_or-drop start s (k - start) 0 ∙
    ap (λ n. slice_index s n) (omega (arith, l)) ∙ e

pub returns-in_err-at-clause-before : goal.returns-in_err-at-clause-before
returns-in_err-at-clause-before c =
    let s = c.args.s.now in
    let start = c.min-start.result in
    let n = ap length (left s start) ∙ length-drop start s in
    rw c.from_residual.ensures
    (λ k l u e. c.in_err-at.ensures.before (k - start) (omega (arith, n, l, u))
    (there s start k c.args.byte (omega (arith, l, u)) e))

pub returns-clause-before : goal.returns-clause-before
returns-clause-before c = λ k l u e.
    c.in_ok-at.ensures.before (k - c.min-start.result) (omega arith)
    (there c.args.s.now c.min-start.result k c.args.byte (omega arith) e)
