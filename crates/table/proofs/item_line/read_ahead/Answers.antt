use Prim.Native.Nat.{ℕ, suc, ◌+◌, ◌^◌, ◌≤◌}
use native.Mathlib.Omega.{arith}
use mathlib.Core.List.{Memᴰ as Mem}
use mathlib.Core.Path.{◌≡◌, sym, ap, subst, ◌∙◌}
use lib.Bits.{bit_or}
use lib.ListN.{length, take, drop}
use lib.Seq.{take-length}
use borrow.Author.Tests.{le-leb}
use Rattle.lines.proofs.TestLaws.{ahead_from, ahead_start, ahead-low, ahead_rises, none_left}
use Rattle.table.specs.Sets.{SetOf}
use Rattle.table.proofs.SetOf.{set_none, set_front}
use Rattle.table.proofs.Order.{front_none}
use Rattle.table.proofs.item_line.read_ahead.Goals as goal

pub loop-x-init : goal.loop-x-init
loop-x-init c = let s = c.args.ahead.now in (ahead_start c.args.terms s, λ h. set_none (λ x. Mem x (take 0 s)) _ (λ x m. front_none s m))

pub returns-then-a-least : goal.returns-then-a-least
returns-then-a-least c = let L = c.loop-x in
    let e = c.from-a.ensures in
    L.invariant.0 ∙ ahead-low c.args.terms L.least c.args.ahead.now L.x-index c.loop-x-test.true (omega arith)

pub loop-x-preserved : goal.loop-x-preserved
loop-x-preserved c = let t = c.args.terms in
    let s = c.args.ahead.now in
    let few : t ≤ 63 = c.requires in
    let L = c.loop-x in
    let i = L.x-index in
    let (told, set) = L.invariant in
    let more = c.loop-x-test.true in
    let a = c.from-a.result in
    let e = c.from-a.ensures in
    let up : L.least ≤ a = omega (arith, c.if-a-least.false) in (
      told ∙ ahead_rises t L.least s i more (omega (arith, up, e)) ∙ ap (λ (x : ℕ). ahead_from t (x + 1) (drop (i + 1) s)) (sym e),
      λ h.
          subst
          (λ x. SetOf (λ y. Mem y (take (i + 1) s)) (suc t) (bit_or L.set x))
          (sym (c.single-set.ensures ∙ ap (λ (k : ℕ). 2 ^ k) (omega (arith, h, few))))
          (set_front s i more e (omega (arith, h)) (set (omega (arith, h, up)))),
    )

pub returns : goal.returns
returns c = let t = c.args.terms in
    let s = c.args.ahead.now in
    let L = c.loop-x in
    let (told, set) = L.invariant in
    let end : L.x-index ≡ length s = omega arith in
    let l = c.if-terms-least.false in (
      told ∙ none_left t L.least s L.x-index end ∙ le-leb L.least (suc t) (omega arith),
      subst (λ k. SetOf (λ x. Mem x k) (suc t) L.set) (ap (λ (k : ℕ). take k s) end ∙ take-length s) (set (omega arith)),
    )
