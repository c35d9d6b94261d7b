-- `items::state_end` meets its contract: a state's lines go up to the next state's place, the last one's up to the end.
use Prim.Native.Nat.{ℕ}
use native.Mathlib.Numerals.{add-one}
use native.Mathlib.Omega.{arith}
use mathlib.Core.Path.{◌∙◌, ap, sym}
use lib.ListN.{get_or}
use Rattle.table.proofs.places.Table.state_end.Goals as goal

pub returns-then-s-self : goal.returns-then-s-self
returns-then-s-self c = let H = c.args.self.now.states_held in
    let l = c.if-s-self.true in
    let e = H.states_are in
    c.from.ensures ∙ (ap (λ (n : ℕ). get_or c.args.self.now.state_at.now n 0) (add-one c.args.s) ∙ sym (H.states_at.next c.args.s (omega arith)))

pub returns : goal.returns
returns c = let H = c.args.self.now.states_held in
    let l = c.if-s-self.false in
    let g = c.requires in
    let e = H.states_are in
    sym (H.states_at.last c.args.s (omega arith))
