-- `condition_7::is_complete` meets its contract: the symbol after the dot is the end mark exactly if there is none.
use mathlib.Core.Path.{◌∙◌, sym}
use Rattle.table.specs.Tests.Tell.{tells_as, tells_eq}
use Rattle.table.specs.Items.Dot.{complete_of, of_complete}
use Rattle.table.specs.Items.{item_in}
use Rattle.table.specs.Places.Step.{held_formed}
use Rattle.table.specs.Places.{grammar_in}
use Rattle.table.proofs.condition_7.is_complete.Goals as goal

pub returns : goal.returns
returns c =
    let i = item_in c.args.t.now.numbers.now c.args.at in
    let t = c.args.t.now.rules_held.terms_are in
    let x = c.after_dot.ensures in
    tells_as (λ e. complete_of (held_formed c.args.t.now.rules_held) i (sym x ∙ (e ∙ t)))
    (λ h. x ∙ (of_complete (grammar_in c.args.t.now.numbers.now) i h ∙ sym t))
    (tells_eq c.after_dot.result c.args.t.now.sizes.terms)
