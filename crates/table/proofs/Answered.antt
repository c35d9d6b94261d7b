-- From the parts of the check to its answer.
use Rattle.std.specs.Prelude.{Ok, Err}
use Rattle.table.specs.declared.Fault.{Fault}
use Prim.Native.Nat.{ℕ}
use mathlib.Core.Path.{◌≡◌, refl, sym, ap, subst}
use mathlib.Core.List.{List}
use Rattle.theory.specs.Grammar.{Reduced, NoRing}
use Rattle.theory.specs.Table.{Table, count}
use Rattle.lines.specs.Lines.{Lined}
use Rattle.lines.specs.Ranges.{InRange, FitLines}
use Rattle.lines.specs.Ranges.Fitting.{read_fits, ranges_fit}
use Rattle.table.specs.Check.{Check}
use Rattle.table.specs.declared.Sizes.{Sizes}
use Rattle.table.specs.declared.Unread.{Unread}
use Rattle.table.specs.Check.{Checks, Answers, told}
use Rattle.table.specs.Check.Exact.{unread, by_answer}
use Rattle.table.specs.Checks.{Answer, unreduced, ringed, fails, sound, Lowest, NotReduced, OnRing, KeptBefore, FirstBroken}
use Rattle.table.specs.Lined.{Refused, Fine, fault_of}
use Rattle.table.specs.Places.{table_in}
use Rattle.table.specs.Run.Right.{conditions}

-- ---- the answer of a table

-- a nonterminal is not productive or not reachable
pub fault_answer : {t : Table} {v : ℕ} → Lowest (NotReduced t.grammar) v → Answers t (Err (Fault.NotReduced v))
unfolding told
fault_answer {v = v} l = (Answer.not-reduced v, unreduced l, refl)

-- a nonterminal is on a unit ring
pub ring_answer : {t : Table} {v : ℕ} → Reduced t.grammar → Lowest (OnRing t.grammar) v → Answers t (Err (Fault.Ring v))
unfolding told
ring_answer {v = v} R l = (Answer.ring v, ringed R l, refl)

-- a condition is broken
pub broken_answer : {t : Table} {k s : ℕ} → Reduced t.grammar → NoRing t.grammar → FirstBroken t k s → Answers t (Err (Fault.Broken k s))
unfolding told
broken_answer {k = k} {s = s} R N b = (Answer.broken k s, fails R N b, refl)

-- all is in order
pub passes_answer : {t : Table} {m : ℕ} → InRange t → Reduced t.grammar → NoRing t.grammar → KeptBefore t 8 → m ≡ count t → Answers t (Ok m)
unfolding told
passes_answer {t} i R N h e =
    (Answer.passes, sound (record { fits = ranges_fit t i; reduced = R; no_ring = N; conditions = conditions h }), ap Ok e)

-- ---- the answer of numbers

-- the numbers are those of the table that was read
pub fine_lines : {ns rules states : List ℕ} {z : Sizes} → Fine ns rules states z → FitLines ns (table_in ns)
fine_lines {ns} f = (read_fits ns _ f.fine).0

-- the answer of a table whose lines fit is that of its numbers
pub answers_check : {ns : List ℕ} {t : Table} {r : Check} → FitLines ns t → Answers t r → Checks ns r
answers_check {ns} {t} f (a, c, e) = subst (λ x. Checks ns x) (sym e) (by_answer ns t a (f, c))

-- the answer of numbers that are not those of a table's lines
pub refused_check : (ns : List ℕ) (e : Unread) → Refused ns e → Checks ns (Err (fault_of e))
refused_check ns Unread.TooLong e = Checks.over ((unread ns Lined.over e).0 refl)
refused_check ns (Unread.Unfit n) e = let (l, s) = (unread ns (Lined.unfit n) e).1 n refl in Checks.unfit n l s
