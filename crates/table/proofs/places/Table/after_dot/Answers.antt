-- `items::after_dot` meets its contract: the item's rule and dot are read, and the symbol at that place of the right side.
use mathlib.Core.Path.{◌∙◌}
use lib.ListN.{get_or}
use Rattle.theory.specs.Table.{rule_at}
use Rattle.table.specs.Places.{grammar_in}
use Rattle.table.proofs.places.Table.after_dot.Goals as goal

pub returns : goal.returns
returns c = let g = grammar_in c.args.self.now.numbers.now in
    let r = c.item_rule-r.ensures in
    let d = c.item_dot-d.ensures in
    c.symbol_at.ensures ∙ (λ j. get_or (rule_at g (r j)).right (d j) g.terms)
