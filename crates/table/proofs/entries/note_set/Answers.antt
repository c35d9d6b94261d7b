use Prim.Native.Nat.{ℕ, suc, ◌+◌, ◌*◌, ◌-◌, ◌<◌}
use native.Mathlib.Omega.{arith}
use mathlib.Core.Bool.{cond}
use mathlib.Core.List.{List}
use mathlib.Core.Path.{◌≡◌, ◌∙◌, sym, subst, ap}
use lib.ListN.{get_or, take, drop}
use Rattle.theory.specs.Table.{has}
use Rattle.table.specs.LookUps.Columns.{Column}
use Rattle.table.specs.Items.{item_in}
use Rattle.table.proofs.Columns.{in_rows, walk_none, walk_more, walk_all}
use Rattle.table.proofs.Actions.{by_token, tokens_first, note_one, skip_one}
use Rattle.table.proofs.entries.note_set.Goals as goal
use Rattle.table.proofs.entries.note_set.Goals.{then-a-t, else-a-t}

-- the members of the set, cut out by the line's count
abbrev members : List ℕ → ℕ → ℕ → List ℕ
members ns p n = take (p + 1 + n - (p + 3)) (drop (p + 3) ns)

members-are : (ns : List ℕ) (p n : ℕ) → n ≡ get_or ns p 0 → members ns p n ≡ (item_in ns p).ahead
unfolding item_in
members-are ns p n e = let l : p + 1 + n - (p + 3) ≡ get_or ns p 0 - 2 = omega arith in ap (λ (k : ℕ). take k (drop (p + 3) ns)) l

pub loop-x-init : goal.loop-x-init
loop-x-init c = let ns = c.args.t.now.numbers.now in
    walk_none _ _ _ (by_token (item_in ns c.args.at).rule) (members ns c.args.at c.number-n.result) 0 _

pub loop-x-preserved : goal.loop-x-preserved
loop-x-preserved c = let ns = c.args.t.now.numbers.now in
    let z = c.args.t.now.sizes in
    let i = item_in ns c.args.at in
    let xs = members ns c.args.at c.number-n.result in
    let col = c.loop-x.invariant in
    let more = c.loop-x-test.true in
    let e = c.from-a.ensures in
    elim c.if-a-t.branch [
      | then-a-t w ↦
          let t = w.if-a-t.true in
          let q : c.from-a.result * z.states + c.args.s < z.terms * z.states = in_rows t c.requires.1 in
          let l = col.long in
          let g = c.requires.2 in
          walk_more _ _ _ (by_token i.rule) xs 0 more col
          (note_one e c.item_rule-rule.ensures c.requires.1 t (omega arith) (w.acts-is ∙ w.note.ensures))
      | else-a-t w ↦
          let same = λ (l : List ℕ). Column z.terms z.states c.args.s (λ a. by_token i.rule a (get_or xs c.loop-x.x-index 0)) c.loop-x.acts l in
          walk_more _ _ _ (by_token i.rule) xs 0 more col (subst same (sym w.acts-is) (skip_one i.rule e w.if-a-t.false))
    ]

pub returns : goal.returns
returns c = let ns = c.args.t.now.numbers.now in
    let t = c.loop-x-test.false in
    let z = c.args.t.now.sizes in
    let i = item_in ns c.args.at in
    let xs = members ns c.args.at c.number-n.result in
    subst (λ k. Column z.terms z.states c.args.s (λ a. cond (has k a) (suc i.rule) 0) c.args.acts.now c.loop-x.acts)
    (members-are ns c.args.at c.number-n.result c.number-n.ensures)
    (walk_all _ _ _ (by_token i.rule) xs 0 c.loop-x.x-index (omega arith) _ (tokens_first i.rule xs) c.loop-x.invariant)
