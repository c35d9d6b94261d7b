-- `verdict` tells the grammar's lowest fault, then the first condition that is broken, and else the count of states.
use Rattle.table.specs.Conditions.Kept.{kept_none, kept_next, first_broken_law}
use Rattle.table.specs.Places.{table_in}
use Rattle.table.proofs.Answered.{fault_answer, ring_answer, broken_answer, passes_answer}
use Rattle.table.proofs.conditions.verdict.Goals as goal

pub returns-in-Some : goal.returns-in-Some
returns-in-Some c = fault_answer c.in-Some.ensures

pub returns-in-Some-lowest_ring : goal.returns-in-Some-lowest_ring
returns-in-Some-lowest_ring c = ring_answer c.in_default.ensures c.in-Some-lowest_ring.ensures

pub returns-in-Some-breaks_1 : goal.returns-in-Some-breaks_1
returns-in-Some-breaks_1 c =
    let h1 = kept_none (table_in c.args.t.now.table.now.numbers.now) in
    broken_answer c.in_default.ensures c.in_default-lowest_ring.ensures (first_broken_law 1 h1 c.in-Some-breaks_1.ensures)

pub returns-in-Some-breaks_2 : goal.returns-in-Some-breaks_2
returns-in-Some-breaks_2 c =
    let h1 = kept_none (table_in c.args.t.now.table.now.numbers.now) in
    let h2 = kept_next 1 h1 c.in_default-breaks_1.ensures in
    broken_answer c.in_default.ensures c.in_default-lowest_ring.ensures (first_broken_law 2 h2 c.in-Some-breaks_2.ensures)

pub returns-in-Some-breaks_3 : goal.returns-in-Some-breaks_3
returns-in-Some-breaks_3 c =
    let h1 = kept_none (table_in c.args.t.now.table.now.numbers.now) in
    let h2 = kept_next 1 h1 c.in_default-breaks_1.ensures in
    let h3 = kept_next 2 h2 c.in_default-breaks_2.ensures in
    broken_answer c.in_default.ensures c.in_default-lowest_ring.ensures (first_broken_law 3 h3 c.in-Some-breaks_3.ensures)

pub breaks_4-requires : goal.breaks_4-requires
breaks_4-requires c =
    let h1 = kept_none (table_in c.args.t.now.table.now.numbers.now) in
    let h2 = kept_next 1 h1 c.in_default-breaks_1.ensures in
    let h3 = kept_next 2 h2 c.in_default-breaks_2.ensures in
    let h4 = kept_next 3 h3 c.in_default-breaks_3.ensures in
    (c.firsts.ensures, c.in_default.ensures, h4)

pub returns-in-Some-breaks_4 : goal.returns-in-Some-breaks_4
returns-in-Some-breaks_4 c =
    let h1 = kept_none (table_in c.args.t.now.table.now.numbers.now) in
    let h2 = kept_next 1 h1 c.in_default-breaks_1.ensures in
    let h3 = kept_next 2 h2 c.in_default-breaks_2.ensures in
    let h4 = kept_next 3 h3 c.in_default-breaks_3.ensures in
    broken_answer c.in_default.ensures c.in_default-lowest_ring.ensures (first_broken_law 4 h4 c.in-Some-breaks_4.ensures)

pub breaks_5-requires : goal.breaks_5-requires
breaks_5-requires c =
    let h1 = kept_none (table_in c.args.t.now.table.now.numbers.now) in
    let h2 = kept_next 1 h1 c.in_default-breaks_1.ensures in
    let h3 = kept_next 2 h2 c.in_default-breaks_2.ensures in
    let h4 = kept_next 3 h3 c.in_default-breaks_3.ensures in
    let h5 = kept_next 4 h4 c.in_default-breaks_4.ensures in
    h5

pub returns-in-Some-breaks_5 : goal.returns-in-Some-breaks_5
returns-in-Some-breaks_5 c =
    let h1 = kept_none (table_in c.args.t.now.table.now.numbers.now) in
    let h2 = kept_next 1 h1 c.in_default-breaks_1.ensures in
    let h3 = kept_next 2 h2 c.in_default-breaks_2.ensures in
    let h4 = kept_next 3 h3 c.in_default-breaks_3.ensures in
    let h5 = kept_next 4 h4 c.in_default-breaks_4.ensures in
    broken_answer c.in_default.ensures c.in_default-lowest_ring.ensures (first_broken_law 5 h5 c.in-Some-breaks_5.ensures)

pub returns-in-Some-breaks_6 : goal.returns-in-Some-breaks_6
returns-in-Some-breaks_6 c =
    let h1 = kept_none (table_in c.args.t.now.table.now.numbers.now) in
    let h2 = kept_next 1 h1 c.in_default-breaks_1.ensures in
    let h3 = kept_next 2 h2 c.in_default-breaks_2.ensures in
    let h4 = kept_next 3 h3 c.in_default-breaks_3.ensures in
    let h5 = kept_next 4 h4 c.in_default-breaks_4.ensures in
    let h6 = kept_next 5 h5 c.in_default-breaks_5.ensures in
    broken_answer c.in_default.ensures c.in_default-lowest_ring.ensures (first_broken_law 6 h6 c.in-Some-breaks_6.ensures)

pub returns-in-Some-breaks_7 : goal.returns-in-Some-breaks_7
returns-in-Some-breaks_7 c =
    let h1 = kept_none (table_in c.args.t.now.table.now.numbers.now) in
    let h2 = kept_next 1 h1 c.in_default-breaks_1.ensures in
    let h3 = kept_next 2 h2 c.in_default-breaks_2.ensures in
    let h4 = kept_next 3 h3 c.in_default-breaks_3.ensures in
    let h5 = kept_next 4 h4 c.in_default-breaks_4.ensures in
    let h6 = kept_next 5 h5 c.in_default-breaks_5.ensures in
    let h7 = kept_next 6 h6 c.in_default-breaks_6.ensures in
    broken_answer c.in_default.ensures c.in_default-lowest_ring.ensures (first_broken_law 7 h7 c.in-Some-breaks_7.ensures)

pub returns : goal.returns
returns c =
    let h1 = kept_none (table_in c.args.t.now.table.now.numbers.now) in
    let h2 = kept_next 1 h1 c.in_default-breaks_1.ensures in
    let h3 = kept_next 2 h2 c.in_default-breaks_2.ensures in
    let h4 = kept_next 3 h3 c.in_default-breaks_3.ensures in
    let h5 = kept_next 4 h4 c.in_default-breaks_4.ensures in
    let h6 = kept_next 5 h5 c.in_default-breaks_5.ensures in
    let h7 = kept_next 6 h6 c.in_default-breaks_6.ensures in
    let h8 = kept_next 7 h7 c.in_default-breaks_7.ensures in
    passes_answer c.args.t.now.table.now.rules_held.in_range c.in_default.ensures c.in_default-lowest_ring.ensures h8 c.args.t.now.table.now.rules_held.states_are
