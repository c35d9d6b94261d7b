-- `entries::note_item` meets its contract: a complete item is worth one more than its rule, another nothing.
use mathlib.Core.Path.{◌∙◌, sym}
use Rattle.table.specs.Places.Step.{held_formed}
use Rattle.table.specs.Places.{grammar_in}
use Rattle.table.specs.Items.{item_in}
use Rattle.table.specs.Items.Dot.{complete_of, of_complete}
use Rattle.table.proofs.Columns.{column_none, column_as}
use Rattle.table.proofs.Actions.{complete_item, other_item}
use Rattle.table.proofs.entries.note_item.Goals as goal

pub returns-then-after_dot-t : goal.returns-then-after_dot-t
returns-then-after_dot-t c = let g = grammar_in c.args.t.now.numbers.now in
    let i = item_in c.args.t.now.numbers.now c.args.at in
    let H = c.args.t.now.rules_held in
    let d = complete_of (held_formed H) i (sym c.after_dot.ensures ∙ c.if-after_dot-t.true ∙ H.terms_are) in
    column_as c.note_set.ensures (λ a l. complete_item g i a d)

pub returns-else-after_dot-t : goal.returns-else-after_dot-t
returns-else-after_dot-t c = let g = grammar_in c.args.t.now.numbers.now in
    let i = item_in c.args.t.now.numbers.now c.args.at in
    column_none (λ a l. other_item g i a (λ d. c.if-after_dot-t.false (c.after_dot.ensures ∙ of_complete g i d ∙ sym c.args.t.now.rules_held.terms_are)))
