-- `open`: the key stands in front, or not.
use Rattle.std.proofs.lemmas.Slice.Eq.{strip_prefix_is}
use Rattle.std.proofs.lemmas.Bool.Decides.{Decides-eqb}
use Rattle.sheet.specs.Tail.{tail_key}
use Rattle.sheet.specs.Tail.Telling.{tail_opened}
use Rattle.sheet.specs.Text.Keyed.{opening}
use Rattle.sheet.proofs.tail.open.Goals as goal

pub returns : goal.returns
returns c =
    let line = c.args.line.now in
    let r = c.strip_prefix.result in
    tail_opened line r (strip_prefix_is Decides-eqb line (opening tail_key) r c.strip_prefix.ensures.cases)
