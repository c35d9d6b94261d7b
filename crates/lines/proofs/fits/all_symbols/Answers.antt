-- `all_symbols` meets its contract: the library's `all` is the specification's.
use Rattle.std.proofs.Common.{rules, tests, ◌∙◌}
use Rattle.std.proofs.lemmas.Iterator.{YieldsList-from_slice}
use Rattle.std.proofs.lemmas.Iterator.Search.{all_from_yields_List}
use Rattle.lines.specs.Lines.Fits.{is_symbol}
use Rattle.lines.proofs.TestLaws.{all-listed}
use Rattle.lines.proofs.fits.all_symbols.Goals as goal

pub returns : goal.returns
returns c =
    let a = c.args in
    let f = is_symbol a.terms a.nonterms in
    all_from_yields_List f _ _ _ c.all.ensures.ran (YieldsList-from_slice a.symbols.now (cc)) (λ x b q k. search (rules, tests)) ∙
    all-listed f a.symbols.now
