-- What the contract of the judge, as it stands in the code, settles: one outcome only, the room too, and the three demands.
use mathlib.Core.Path.{◌≡◌}
use Prim.Native.Nat.{◌≤◌}
use contract.Lifetimes.{Lfts}
use lib.ListN.{length}
use Rattle.theory.specs.Table.{Table, count}
use Rattle.lines.specs.Limits.{max_tail}
use Rattle.judge.specs.declared.Judgement.{Judgement}
use Rattle.judge.specs.Judge.{words, Good, Ready, cleared}
use Rattle.judge.specs.Judge.Demands.{Worth, demands, not_refused, refusal_steps}
use Rattle.judge.specs.Judge.Into.{unique as unique-outcome}
use Rattle.judge.proofs.judge.Reads as J

-- any two outcomes that the contract allows are equal: answer, value, steps and every word of the room
pub unique : (κs : Lfts 3) (a : _) (r r' : Judgement) (e e' : _) → J.Learnt κs a r e → J.Learnt κs a r' e' → (r ≡ r') × (e.1.1.0.now ≡ e'.1.1.0.now)
unique κs a r r' e e' p q =
    unique-outcome a.0.now a.1.0.now a.1.1.0.now r r' e.1.1.0.now e'.1.1.0.now p q

-- By a table that passes a tail that is ready gets a judgement, worth demands 2 and 3, and the words that it calls for are zero afterwards.
pub judged : (κs : Lfts 3) (a : _) (r : Judgement) (e : _) → J.Learnt κs a r e → (t : Table) → Good a.0.now t →
    Ready max_tail a.1.0.now (length a.1.1.0.now) t →
    Worth a.0.now a.1.0.now r × (e.1.1.0.now ≡ cleared (words (count t) (length a.1.0.now)) a.1.1.0.now)
judged κs a r e p t g y =
    let l = not_refused t g y p.judgement in
    (demands p.judgement l, p.zeroed l t g)

-- every refusal has no steps and leaves the room
pub refused : (κs : Lfts 3) (a : _) (r : Judgement) (e : _) → J.Learnt κs a r e → 2 ≤ r.answer → (r.steps ≡ 0) × (e.1.1.0.now ≡ a.1.1.0.now)
refused κs a r e p l = (refusal_steps p.judgement l, p.kept l)
