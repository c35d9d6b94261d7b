-- `entries::look_ups` meets its contract: the lines first, then the room, then the entries of the states and of the rules.
use mathlib.Core.Path.{sym, ◌∙◌}
use Rattle.table.proofs.LookedUp.{told_unfit, told_built}
use Rattle.table.proofs.Room.{room_says}
use Rattle.table.proofs.entries.look_ups.Goals as goal

pub returns-in_default : goal.returns-in_default
returns-in_default c = told_unfit c.in_default.field-0 c.in_default.ensures.reads

pub fill_states-requires : goal.fill_states-requires
fill_states-requires c = room_says _ _ _ _ _ (sym c.has_room.ensures ∙ c.if-has_room.true)

pub returns-then-has_room : goal.returns-then-has_room
returns-then-has_room c = let (acts, go) = c.fill_states.ensures in
    let (lens, lefts) = c.fill_rules.ensures in
    told_built c.in-Ok.ensures.reads (sym c.if-has_room.true ∙ c.has_room.ensures) record { act = acts; goes = go; right = lens; left = lefts }
