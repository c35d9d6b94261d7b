-- `reduce` meets its contract: by whether a path is short, and whether trees are to be added.
use Rattle.forest.proofs.Reducing.{reduce_some, reduce_extend, reduces_long, reduces_short, reduces_added}
use Rattle.forest.specs.Grows.{GrowsTold}
use mathlib.Core.Bool.{Bool}
use mathlib.Core.Path.{subst}
use Rattle.forest.proofs.steps.reduce.Goals as goal
use Rattle.forest.proofs.steps.reduce.Goals.{else-long-via-then-long+else-add, else-long-via-else-long}

pub grow-long-requires : goal.grow-long-requires
grow-long-requires c = reduce_some c.requires

pub extend-requires : goal.extend-requires
extend-requires c =
    reduce_extend c.requires (subst (λ (b : Bool). GrowsTold c.args.room.now c.args.row.now c.args.depth c.args.p c.grow-long.new.room b) c.if-long.true c.grow-long.ensures)

pub returns-then-add : goal.returns-then-add
returns-then-add c =
    let s = c.args in
    reduces_added s.room.now s.row.now s.depth s.p c.grow-long.new.room c.grow-long.result c.grow-long.ensures s.add c.if-add.true c.if-long.true
    c.extend.new.room c.extend.ensures

pub returns-else-long : goal.returns-else-long
returns-else-long c =
    let s = c.args in
    elim c.else-long.branch [
      | else-long-via-then-long+else-add w ↦
          reduces_short s.room.now s.row.now s.depth s.p c.grow-long.new.room c.grow-long.result c.grow-long.ensures s.add w.if-add.false w.if-long.true
      | else-long-via-else-long w ↦
          reduces_long s.room.now s.row.now s.depth s.p c.grow-long.new.room c.grow-long.result c.grow-long.ensures s.add w.if-long.false
    ]
