-- `firsts::begins` meets its contract: by whether the symbol is a nonterminal.
use mathlib.Core.Path.{◌∙◌, sym}
use Rattle.table.proofs.FirstSets.{first_kind, first_row}
use Rattle.table.proofs.firsts.begins.Goals as goal

pub returns-then-x-terms : goal.returns-then-x-terms
returns-then-x-terms c = c.single.ensures ∙ sym (first_kind c.args.terms c.args.rows.now c.args.x c.if-x-terms.true)

pub returns : goal.returns
returns c = sym (first_row c.args.terms c.args.rows.now c.args.x c.if-x-terms.false)
