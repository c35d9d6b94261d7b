use Prim.Native.Nat.{suc, ◌+◌}
use native.Mathlib.Omega.{arith}
use mathlib.Core.Path.{◌≡◌}
use Rattle.table.specs.Places.{grammar_in}
use Rattle.table.proofs.Columns.{columns_more, columns_all}
use Rattle.table.proofs.entries.fill_states.Goals as goal

pub loop-s-preserved : goal.loop-s-preserved
loop-s-preserved c = let t = c.loop-s-test.true in
    let (acts, go) = c.loop-s.invariant in
    (columns_more t acts c.note_acts.ensures, columns_more t go c.note_gos.ensures)

pub returns : goal.returns
returns c = let H = c.args.t.now.rules_held in
    let (acts, go) = c.loop-s.invariant in
    let l = c.loop-s-test.false in
    let g = grammar_in c.args.t.now.numbers.now in
    let a = H.terms_are in
    let b = H.nonterms_are in
    let e : suc (c.args.t.now.sizes.terms + c.args.t.now.sizes.nonterms) ≡ suc (g.terms + g.nonterms) = omega arith in
    (columns_all (omega arith) a H.states_are c.fill.auto.self acts, columns_all (omega arith) e H.states_are c.fill-2.auto.self go)
