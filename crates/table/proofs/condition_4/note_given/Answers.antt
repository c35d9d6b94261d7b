-- `condition_4::note_given` meets its contract: what an item with dot 0 gives goes into the row of its rule.
use native.Mathlib.Omega.{arith}
use mathlib.Core.Path.{◌∙◌, sym}
use Rattle.table.specs.NotedTable.{grammar_of, item_of}
use Rattle.table.specs.Places.Step.{held_rules}
use Rattle.table.proofs.Noted.{given_joined, given_dotted, given_accept}
use Rattle.table.proofs.condition_4.note_given.Goals as goal
use Rattle.table.proofs.condition_4.note_given.Goals.{else-item_dot-eq0-via-then-item_dot-eq0+else-r-t}
use Rattle.table.proofs.condition_4.note_given.Goals.{else-item_dot-eq0-via-else-item_dot-eq0}

pub returns-then-r-t : goal.returns-then-r-t
returns-then-r-t c =
    let t = c.args.t.now in
    let l = c.if-r-t.true in
    let m = held_rules t.table.now.rules_held in
    let n = c.told-given in
    given_joined (grammar_of t) (item_of t c.args.at) c.args.given.now c.item_rule-r.result c.set_at.result
    c.item_rule-r.ensures (sym c.item_dot.ensures ∙ c.if-item_dot-eq0.true) (omega arith) c.set_at.ensures

pub returns-else-item_dot-eq0 : goal.returns-else-item_dot-eq0
returns-else-item_dot-eq0 c =
    let g = grammar_of c.args.t.now in
    let i = item_of c.args.t.now c.args.at in
    let e = c.item_rule-r.ensures in
    let n = c.args.t.now.table.now.rules_held.rules_are in
    elim c.else-item_dot-eq0.branch [
      | else-item_dot-eq0-via-then-item_dot-eq0+else-r-t w ↦
          let l = w.if-r-t.false in given_accept g i c.args.given.now (omega arith)
      | else-item_dot-eq0-via-else-item_dot-eq0 w ↦
          given_dotted g i c.args.given.now (λ z. w.if-item_dot-eq0.false (c.item_dot.ensures ∙ z))
    ]
