-- `entries::note` meets its contract: where nothing stood the number is written, else nothing changes.
use native.Mathlib.Numerals.{add-one}
use mathlib.Core.Path.{ap, ◌∙◌}
use lib.ListN.{set}
use Rattle.table.proofs.Columns.{noted-free, noted-taken}
use Rattle.table.proofs.entries.note.Goals as goal

pub returns-then-entries-at-eq0 : goal.returns-then-entries-at-eq0
returns-then-entries-at-eq0 c = let l = c.args.entries.now in
    let v = c.args.v in
    ap (set l c.args.at) (add-one v) ∙ noted-free l c.args.at _ c.if-entries-at-eq0.true

pub returns-else-entries-at-eq0 : goal.returns-else-entries-at-eq0
returns-else-entries-at-eq0 c = noted-taken c.args.entries.now c.args.at _ c.if-entries-at-eq0.false
