-- `read_ahead` meets its contract. The invariant: the set fits exactly if those before rise to a kind or the end mark at most, and what is left of
-- it fits, its next member at least `least`; if those before are kinds or the end mark, they are the members of the set made.
use Prim.Native.Nat.{suc, ◌≤◌}
use mathlib.Core.List.{Memᴰ as Mem}
use mathlib.Core.Path.{◌≡◌}
use lib.ListN.{take, drop}
use Rattle.lines.specs.Lines.Fits.{ahead_fits}
use Rattle.lines.proofs.TestLaws.{ahead_from}
use Rattle.table.specs.Sets.{SetOf}
use Rattle.table.proofs.item_line.read_ahead.Given as goal

abbrev pub invariant-loop-x : goal.invariant-loop-x
invariant-loop-x l =
    (ahead_fits l.terms l.ahead ≡ ahead_from l.terms l.least (drop l.x-index l.ahead)) × (l.least ≤ suc l.terms → SetOf (λ a. Mem a (take l.x-index l.ahead)) (suc l.terms) l.set)
