-- `condition_7::keeps_7` meets its contract: a complete item that shares a token with those before it refutes it.
use Prim.Native.Nat.{suc, ◌+◌}
use native.Mathlib.Omega.{arith}
use mathlib.Core.List.{Memᴰ as Mem}
use mathlib.Core.Path.{sym, subst}
use lib.ListN.{take, get_or}
use borrow.Author.Count.{below_none, below_more}
use Rattle.theory.specs.Table.{Item, Complete, state_at}
use Rattle.table.specs.Conditions.Parts.{NoShift}
use Rattle.table.specs.Items.Held.{walk_held, state_in, walk_here, walk_first, walk_on}
use Rattle.table.specs.Sets.{SetOf}
use Rattle.table.specs.Places.{grammar_in, table_in, no_item}
use Rattle.table.specs.Tests.Tell.{Tells, refutes, tells_no}
use Rattle.table.specs.Members.{mem_at}
use Rattle.table.proofs.SetsNoted.{noted_walk, all_noted}
use Rattle.table.proofs.Clash.{DoneOn, Apart, none_done, done_same, done_more, done_all}
use Rattle.table.proofs.Clash.{apart_here, clash_here, clash_tells, all_apart}
use Rattle.table.proofs.SetOf.{set_none}
use Rattle.table.proofs.condition_7.keeps_7.Goals as goal
use Rattle.table.proofs.condition_7.keeps_7.Goals.{then-is_complete+else-set-ahead-ne0, else-is_complete}

pub loop-init : goal.loop-init
loop-init c =
    let ns = c.args.t.now.table.now.numbers.now in (
      walk_first c.item_count-end.ensures c.first_item-at.ensures,
      set_none _ _ (none_done (grammar_in ns) (state_at (table_in ns) c.args.s).items),
      below_none _,
    )

pub is_complete-requires : goal.is_complete-requires
is_complete-requires c = search walk_held

pub next_item-at-requires : goal.next_item-at-requires
next_item-at-requires c = search walk_held

pub set_at-ahead-requires : goal.set_at-ahead-requires
set_at-ahead-requires c =
    let t = c.args.t.now.table.now in
    let noted = all_noted _ t.sizes c.args.t.now.all_told in
    noted_walk t.state_at.now t.sizes noted c.args.s c.requires c.loop.invariant.0 c.loop-test.true

pub returns-then-set-ahead-ne0 : goal.returns-then-set-ahead-ne0
returns-then-set-ahead-ne0 c =
    let ns = c.args.t.now.table.now.numbers.now in
    let g = grammar_in ns in
    let is = (state_at (table_in ns) c.args.s).items in
    let (w, set, all) = c.loop.invariant in
    let k = c.loop.counter in
    let here = walk_here c.args.t.now.table.now.states_held c.args.s c.requires w c.loop-test.true in
    let p = subst (Complete g) here.same (c.is_complete.ensures.holds c.if-is_complete.true) in
    let Ahead = λ (i : Item). SetOf (λ a. Mem a i.ahead) (suc g.terms) c.set_at-ahead.result in
    let A = subst Ahead here.same c.set_at-ahead.ensures in
    tells_no (λ keeps. clash_here g is k set (omega arith) p A c.if-set-ahead-ne0.true
    (all_apart (table_in ns) c.args.s keeps k (omega arith)))

pub loop-preserved : goal.loop-preserved
loop-preserved c =
    let ns = c.args.t.now.table.now.numbers.now in
    let g = grammar_in ns in
    let is = (state_at (table_in ns) c.args.s).items in
    let (w, set, all) = c.loop.invariant in
    let t = c.loop-test.true in
    let k = c.loop.counter in
    let H = c.args.t.now.table.now.states_held in
    let here = walk_here H c.args.s c.requires w t in
    let Done = SetOf (DoneOn g (take (k + 1) is)) (suc g.terms) in
    let (more, apart) : Done c.if-is_complete.set × Apart g is k = elim c.if-is_complete.branch [
      | then-is_complete+else-set-ahead-ne0 v ↦
          let p = subst (Complete g) here.same (c.is_complete.ensures.holds v.if-is_complete.true) in
          let Ahead = λ (i : Item). SetOf (λ a. Mem a i.ahead) (suc g.terms) v.set_at-ahead.result in
          let A = subst Ahead here.same v.set_at-ahead.ensures in (
            subst Done (sym v.set-is) (done_more g is k set (omega arith) p A),
            apart_here g is k set (omega arith) p A
                (λ a m.
                let i = (state_in H c.args.s c.requires).items_in _ (mem_at is k no_item (omega arith)) in
                let b = i.ahead_in a m in
                omega arith)
                v.if-set-ahead-ne0.false,
          )
      | else-is_complete v ↦
          let more_to_come : Complete g (get_or is k no_item) → ⊥ =
          λ p. refutes c.is_complete.ensures v.if-is_complete.false (subst (Complete g) (sym here.same) p) in
          (subst Done (sym v.set-is) (done_same g is k set more_to_come), λ p. absurd (more_to_come p))
    ] in
    (walk_on w t here c.next_item-at.ensures, more, below_more _ _ all apart)

pub returns : goal.returns
returns c =
    let ns = c.args.t.now.table.now.numbers.now in
    let t = table_in ns in
    let s = c.args.s in
    let (w, set, all) = c.loop.invariant in
    clash_tells t s
    (λ i a m x.
    let b = ((state_in c.args.t.now.table.now.states_held s c.requires).items_in i m).ahead_in a x in
    omega arith)
    (λ j l. all j (omega arith)) (done_all (grammar_in ns) (state_at t s).items c.loop.counter (omega arith) set)
    (subst (λ z. Tells c.no_shift.result (NoShift z (state_at t s).gos c.loop.set))
    c.args.t.now.table.now.rules_held.terms_are c.no_shift.ensures)
