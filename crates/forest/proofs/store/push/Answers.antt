-- `push` meets its contract: two stores, or none.
use Rattle.forest.proofs.Freeing.{push_none, push_some}
use Rattle.forest.specs.Words.{poke}
use Prim.Native.Nat.{ℕ}
use mathlib.Core.List.{List}
use mathlib.Core.Path.{◌∙◌, sym, ap}
use Rattle.forest.proofs.store.push.Goals as goal

pub returns-then-x-eq0 : goal.returns-then-x-eq0
returns-then-x-eq0 c =
    sym (push_none c.args.room.now c.args.x c.if-x-eq0.true)

pub returns : goal.returns
returns c =
    let w = c.args.room.now in
    let x = c.args.x in
    c.put-2.ensures ∙ ap (λ (l : List ℕ). poke l 0 3 x) (c.put.ensures ∙ ap (λ (h : ℕ). poke w x 3 h) c.get-h.ensures.0) ∙ sym (push_some w x c.if-x-eq0.false)
