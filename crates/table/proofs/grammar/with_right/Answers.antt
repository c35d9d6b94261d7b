use Prim.Native.Nat.{◌+◌}
use native.Mathlib.Nat.{le_refl}
use native.Mathlib.Omega.{arith}
use mathlib.Core.Bool.{true}
use mathlib.Core.Path.{◌≡◌, ◌∙◌, sym, subst}
use lib.ListN.{length}
use borrow.Author.Count.{below_none}
use Rattle.theory.specs.Table.{rule_at}
use Rattle.table.specs.Places.Step.{held_symbol, held_nonterms, held_formed, held_mem}
use Rattle.table.specs.Places.{grammar_in}
use Rattle.table.specs.Members.{mem_at}
use Rattle.table.specs.Notions.{member}
use Rattle.table.proofs.Notions.{with-is, part_means, Reaching, reaching_more, reaching_kind, reaching_all}
use Rattle.table.proofs.grammar.with_right.Goals as goal
use Rattle.table.proofs.grammar.with_right.Goals.{then-t-x, else-t-x}

pub loop-j-init : goal.loop-j-init
loop-j-init c = record { part = c.requires.1; grows = le_refl _; has = below_none _ }

pub right_symbol-x-requires : goal.right_symbol-x-requires
right_symbol-x-requires c = let e = c.right_count-j-end.ensures in (c.requires.0, omega arith)

pub with-out-requires : goal.with-out-requires
with-out-requires c = let e = c.right_count-j-end.ensures in
    let g = grammar_in c.args.t.now.numbers.now in
    let x = c.right_symbol-x.ensures in
    let m = mem_at (rule_at g c.args.r).right c.loop-j.j 0 (omega arith) in
    let h = held_symbol c.args.t.now.rules_held c.args.r c.requires.0 _ m in
    let n = held_nonterms c.args.t.now.rules_held in
    (omega arith, omega arith)

pub loop-j-preserved : goal.loop-j-preserved
loop-j-preserved c = let g = grammar_in c.args.t.now.numbers.now in
    let ru = rule_at g c.args.r in
    let H = c.args.t.now.rules_held in
    let j = c.loop-j.j in
    let e = c.right_count-j-end.ensures in
    let x = c.right_symbol-x.ensures in
    let t = H.terms_are in
    let M = held_mem H c.args.r c.requires.0 in
    let a = part_means g c.requires.1 ru.left (subst (λ n. member n c.args.set ru.left ≡ true) t c.requires.2) in
    elim c.if-t-x.branch [
      | then-t-x w ↦
          let l = w.if-t-x.true in
          subst (λ s. Reaching g ru.right c.args.set s (j + 1))
          (with-is c.loop-j.out w.with-out.ensures t x ∙ sym w.out-is)
          (reaching_more g ru c.args.set (held_formed H) M a c.loop-j.invariant (omega arith) (omega arith))
      | else-t-x w ↦
          let l = w.if-t-x.false in
          subst (λ s. Reaching g ru.right c.args.set s (j + 1)) (sym w.out-is)
          (reaching_kind g ru c.args.set c.loop-j.invariant (omega arith))
    ]

pub returns : goal.returns
returns c = let g = grammar_in c.args.t.now.numbers.now in
    let ru = rule_at g c.args.r in
    let e = c.right_count-j-end.ensures in
    let l : c.loop-j.j ≡ length ru.right = omega arith in
    reaching_all g ru c.args.set (subst (Reaching g ru.right c.args.set c.loop-j.out) l c.loop-j.invariant)
