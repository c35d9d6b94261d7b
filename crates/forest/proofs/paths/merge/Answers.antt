-- `merge` meets its contract: the empty forest, two grafts, and the print of what the room holds then.
use Rattle.forest.proofs.Grafting.{first-graft, second-graft, both_print, both_shown}
use Rattle.forest.proofs.paths.merge.Goals as goal

pub graft-requires : goal.graft-requires
graft-requires c =
    let a = c.args in
    let v = c.empty in
    first-graft a.room.now a.first.now a.second.now a.out.now c.requires v.new.room v.ensures.0

pub graft-requires-2 : goal.graft-requires-2
graft-requires-2 c =
    let a = c.args in
    let v = c.empty in
    let u = c.graft in
    second-graft a.room.now a.first.now a.second.now a.out.now c.requires v.new.room u.new.room v.ensures.0 u.ensures

pub print-requires : goal.print-requires
print-requires c =
    let a = c.args in
    let v = c.empty in
    let u = c.graft in
    let z = c.graft-2 in
    let x = c.get-x in
    both_print a.room.now a.first.now a.second.now a.out.now c.requires v.new.room u.new.room v.ensures.0 u.ensures
    z.new.room z.ensures x.result x.ensures.0

pub returns : goal.returns
returns c =
    let a = c.args in
    let v = c.empty in
    let u = c.graft in
    let z = c.graft-2 in
    let x = c.get-x in
    let p = c.print in
    both_shown a.room.now a.first.now a.second.now a.out.now c.requires v.new.room u.new.room v.ensures.0 u.ensures
    z.new.room z.ensures x.result x.ensures.0 p.new.out p.result p.ensures
