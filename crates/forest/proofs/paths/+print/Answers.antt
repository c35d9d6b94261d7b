use Rattle.forest.proofs.Printing.{print_in, print_place, print_end, kids_print, kids_fall, next_fall, Told, told_first, told_next}
use Rattle.forest.specs.Prints.{SomePrint, Prints}
use Rattle.forest.specs.Trees.{live}
use Rattle.forest.specs.Words.{at}
use lib.ListN.{set, length-set}
use native.Mathlib.Omega.{arith}
use Prim.Native.Nat.{ℕ, ◌+◌, ◌<◌}
use mathlib.Core.Path.{◌∙◌, subst, subst⁻¹}
use borrow.Author.Rules.{rules}
use Rattle.forest.proofs.paths.+print.Goals as goal

pub loop-a-init : goal.loop-a-init
loop-a-init t c = told_first c.args.room.now c.args.x c.args.out.now c.args.n c.requires

pub get-requires : goal.get-requires
get-requires t c =
    let g = c.loop-a in
    let h = print_in c.args.room.now g.out g.a g.k c.loop-a-test.true g.invariant.some in (omega arith, h.0, h.1)

pub overflow_add-out : goal.overflow_add-out
overflow_add-out t c = omega (arith, c.get.ensures.1)

pub bounds-out-k : goal.bounds-out-k
bounds-out-k t c = print_place c.loop-a.invariant.some

pub get-c-requires : goal.get-c-requires
get-c-requires t c =
    let g = c.loop-a in
    let h = print_in c.args.room.now g.out g.a g.k c.loop-a-test.true g.invariant.some in (omega arith, h.0, h.1)

pub overflow_add-k : goal.overflow_add-k
overflow_add-k t c = search rules

pub print-k-requires : goal.print-k-requires
print-k-requires t c =
    let g = c.loop-a in
    let w = c.args.room.now in
    let nz = c.loop-a-test.true in
    let e = c.get-c.ensures.0 in (
      subst⁻¹ (λ (z : ℕ). live w z < t) e
          (omega (arith, c.decreases, kids_fall w g.out g.a g.k nz g.invariant.some, g.invariant.fewer)),
      subst⁻¹ (λ (z : ℕ). SomePrint w z (set g.out g.k (c.get.result + 1)) (g.k + 1)) e
          (subst⁻¹ (λ (z : ℕ). SomePrint w (at w g.a 1) (set g.out g.k (z + 1)) (g.k + 1)) c.get.ensures.0
          (kids_print w g.out g.a g.k nz g.invariant.some)),
    )

pub get-a-requires : goal.get-a-requires
get-a-requires t c =
    let g = c.loop-a in
    let h = print_in c.args.room.now g.out g.a g.k c.loop-a-test.true g.invariant.some in (omega arith, h.0, h.1)

pub loop-a-smaller : goal.loop-a-smaller
loop-a-smaller t c =
    let g = c.loop-a in
    let w = c.args.room.now in
    subst⁻¹ (λ (z : ℕ). live w z < live w g.a) c.get-a.ensures.0
    (next_fall w g.out g.a g.k c.loop-a-test.true g.invariant.some)

pub loop-a-preserved : goal.loop-a-preserved
loop-a-preserved t c =
    let g = c.loop-a in
    let w = c.args.room.now in
    let the-get = c.get in
    let the-print = c.print-k in
    subst⁻¹ (λ (z : ℕ). Told w c.args.x c.args.out.now c.args.n the-print.new.out z the-print.result) c.get-a.ensures.0
    (told_next g.invariant c.loop-a-test.true the-print.new.out the-print.result
    (subst (λ (z : ℕ). Prints w (at w g.a 1) (set g.out g.k (z + 1))
    (g.k + 1) the-print.new.out the-print.result) the-get.ensures.0
    (subst (λ (z : ℕ). Prints w z (set g.out g.k (the-get.result + 1))
    (g.k + 1) the-print.new.out the-print.result) c.get-c.ensures.0
    the-print.ensures))
    (the-print.auto.out ∙ length-set g.out g.k (the-get.result + 1)))

pub bounds-out-k-2 : goal.bounds-out-k-2
bounds-out-k-2 t c = print_place c.loop-a.invariant.some

pub overflow_add-result : goal.overflow_add-result
overflow_add-result t c = search rules

pub shape_of-out : goal.shape_of-out
shape_of-out t c = length-set c.loop-a.out c.loop-a.k 0 ∙ c.loop-a.invariant.len

pub returns : goal.returns
returns t c =
    let g = c.loop-a in
    g.invariant.back (set g.out g.k 0) (g.k + 1) (print_end c.args.room.now g.out g.k g.a c.loop-a-test.false)
