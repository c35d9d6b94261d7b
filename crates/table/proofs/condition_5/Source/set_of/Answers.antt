-- `condition_5::Source::set_of` meets its contract: the place that is noted for the rule and the dot is that of an
-- item which has them.
use Prim.Native.Nat.{ℕ, suc}
use native.Mathlib.Omega.{arith}
use mathlib.Core.List.{Memᴰ as Mem}
use mathlib.Core.Path.{◌≡◌, ◌∙◌, ap, subst}
use lib.ListN.{get_or}
use Rattle.theory.specs.Table.{Item, state_at}
use Rattle.theory.proofs.Basics.{place}
use Rattle.table.specs.Items.Held.{item_here, state_in}
use Rattle.table.specs.Items.{Agrees}
use Rattle.table.specs.Members.{mem_at}
use Rattle.table.specs.NotedTable.{table_of}
use Rattle.table.specs.Places.{no_item}
use Rattle.table.specs.Sets.{SetOf}
use Rattle.table.specs.Spots.{core_of, core_at}
use Rattle.table.proofs.SetsNoted.{noted_here, all_noted}
use Rattle.table.proofs.Spotted.{core_in, same_core}
use Rattle.table.proofs.condition_5.Source.set_of.Goals as goal

pub returns-then-at-first_item : goal.returns-then-at-first_item
returns-then-at-first_item c = λ i m (r, d).
    let p = c.spot_of-at.ensures in
    let f = c.first_item.ensures in
    let l = c.if-at-first_item.true in
    let S = c.args.self.now in
    let (j, g, q) = place no_item m in
    let n = S.spotted.noted j g in
    let e : core_at S.noted.now.table.now.numbers.now S.s j ≡ core_of c.args.rule c.args.dot =
    λ x. core_of ((ap (λ (y : Item). y.rule) q ∙ r) x) ((ap (λ (y : Item). y.dot) q ∙ d) x) in
    let o = ap (λ (x : ℕ). get_or S.spots.now x 0) e in
    omega arith

pub set_at-requires : goal.set_at-requires
set_at-requires c =
    let p = c.spot_of-at.ensures in
    let f = c.first_item.ensures in
    let l = c.if-at-first_item.false in
    let S = c.args.self.now in
    let t = S.noted.now.table.now in
    let (j, g, u, v) = S.spotted.found (core_of c.args.rule c.args.dot) (omega arith) in
    noted_here t.state_at.now t.sizes (all_noted _ t.sizes S.noted.now.all_told) S.s S.here j g (p ∙ v)

pub returns : goal.returns
returns c =
    let p = c.spot_of-at.ensures in
    let f = c.first_item.ensures in
    let l = c.if-at-first_item.false in
    let S = c.args.self.now in
    let t = table_of S.noted.now in
    let H = S.noted.now.table.now.states_held in
    let is = (state_at t S.s).items in
    let (j, n, u, v) = S.spotted.found (core_of c.args.rule c.args.dot) (omega arith) in
    let h = item_here H S.s S.here j n c.spot_of-at.result (p ∙ v) in
    let i = get_or is j no_item in
    let k = mem_at is j no_item n in
    let g : Agrees c.args.rule c.args.dot i =
    same_core c.requires.1 (core_in t H.in_range i ((state_in H S.s S.here).items_in i k)).1 u in
    let P : Item → Type 0 = λ y. SetOf (λ a. Mem a y.ahead) (suc t.grammar.terms) c.set_at.result in
    (i, k, g, subst P h.same c.set_at.ensures)
