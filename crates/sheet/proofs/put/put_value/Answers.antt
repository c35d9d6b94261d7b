use Rattle.sheet.specs.Putting.{Putting, putting_start, putting_room, putting_small, putting_length}
use Rattle.sheet.specs.Putting.{putting_some, putting_digit, putting_next, putting_lf}
use Rattle.sheet.specs.Text.{max_word}
use lib.ListN.{length}
use mathlib.Core.List.{List}
use Prim.Native.Nat.{ℕ, ◌≤◌, ◌<◌}
use native.Mathlib.Omega.{arith}
use Rattle.sheet.proofs.put.put_value.Goals as goal
use Rattle.sheet.proofs.put.put_value.Goals.{then-c-ge-DIGIT_0, else-c-ge-DIGIT_0+else-c-eq-LF}

-- what is known of the number, its place and the slice at the loop's head
bounds : {s before out : List ℕ} {i n v : ℕ} → Putting s before out i n v → (v ≤ max_word) × (n < length out)
bounds p =
    let r = putting_room p in
    let l = putting_length p in
    let g = p.given.fits in
    (putting_small p, omega arith)

pub loop-c-init : goal.loop-c-init
loop-c-init c = putting_start c.args.s.now c.args.out.now c.requires

pub overflow_mul-value : goal.overflow_mul-value
overflow_mul-value c = omega (arith, bounds c.loop-c.invariant)

pub overflow_add-value : goal.overflow_add-value
overflow_add-value c = omega (arith, bounds c.loop-c.invariant, c.from.ensures, c.type_inv.s c.loop-c.c-index)

pub overflow_cast-out : goal.overflow_cast-out
overflow_cast-out c = omega (arith, bounds c.loop-c.invariant)

pub offset_bounds-out-n : goal.offset_bounds-out-n
offset_bounds-out-n c = let b = bounds c.loop-c.invariant in omega (arith, c.well_formed)

pub bounds-out-n : goal.bounds-out-n
bounds-out-n c = (bounds c.loop-c.invariant).1

pub overflow_add-n : goal.overflow_add-n
overflow_add-n c = let b = bounds c.loop-c.invariant in omega (arith, c.well_formed)

pub returns-then-c-eq-LF : goal.returns-then-c-eq-LF
returns-then-c-eq-LF c = putting_lf c.loop-c.invariant c.loop-c-test.true c.if-c-eq-LF.true

pub loop-c-preserved : goal.loop-c-preserved
loop-c-preserved c =
    let p = c.loop-c.invariant in
    let h = c.loop-c-test.true in
    elim c.if-c-ge-DIGIT_0.branch [
      | then-c-ge-DIGIT_0 w ↦
          let b = w.if-c-ge-DIGIT_0.true in
          rw (w.out-is, w.n-is, w.value-is) (putting_digit p h w.from.result (omega (arith, w.from.ensures)))
      | else-c-ge-DIGIT_0+else-c-eq-LF w ↦
          rw (w.out-is, w.n-is, w.value-is) (putting_next p h w.if-c-ge-DIGIT_0.false w.if-c-eq-LF.false)
    ]

pub returns : goal.returns
returns c = absurd (putting_some c.loop-c.invariant c.loop-c-test.false)
