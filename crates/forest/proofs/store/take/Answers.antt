-- `take` meets its contract: by whether there is a free tree.
use Rattle.forest.proofs.Taking.{fresh_takes, popped-takes, Opened, opened}
use Rattle.forest.specs.Takes.{Takes}
use Rattle.forest.specs.Pools.{pushed, popped}
use Rattle.forest.specs.Words.{at, poke}
use native.Mathlib.Omega.{arith}
use Prim.Native.Nat.{ℕ, ◌+◌}
use mathlib.Core.List.{List}
use mathlib.Core.Path.{◌∙◌, sym, ap, subst⁻¹}
use Rattle.forest.proofs.store.take.Goals as goal

pub returns-then-h-eq0 : goal.returns-then-h-eq0
returns-then-h-eq0 c =
    let the-get2 = c.get-p in
    let w = c.args.room.now in
    subst⁻¹ (λ (u : List ℕ). Takes w the-get2.result u) c.put.ensures
    (subst⁻¹ (λ (z : ℕ). Takes w z (poke w 0 0 (z + 1))) the-get2.ensures.0 (fresh_takes w (sym c.get-h.ensures.0 ∙ c.if-h-eq0.true)))

pub get-l-requires : goal.get-l-requires
get-l-requires c =
    let S = c.requires in
    let e = c.get-h.ensures.0 in
    let O = subst⁻¹ (λ (z : ℕ). Opened c.args.room.now z) e (opened S (λ z. c.if-h-eq0.false (e ∙ z))) in
    (omega arith, O.inside, S.has.words)

pub get-c-requires : goal.get-c-requires
get-c-requires c =
    let S = c.requires in
    let e = c.get-h.ensures.0 in
    let O = subst⁻¹ (λ (z : ℕ). Opened c.args.room.now z) e (opened S (λ z. c.if-h-eq0.false (e ∙ z))) in
    (omega arith, O.inside, S.has.words)

pub get-n-requires : goal.get-n-requires
get-n-requires c =
    let S = c.requires in
    let e = c.get-h.ensures.0 in
    let O = subst⁻¹ (λ (z : ℕ). Opened c.args.room.now z) e (opened S (λ z. c.if-h-eq0.false (e ∙ z))) in
    (omega arith, O.inside, S.has.words)

pub push-requires : goal.push-requires
push-requires c =
    let S = c.requires in
    let e = c.get-h.ensures.0 in
    let O = subst⁻¹ (λ (z : ℕ). Opened c.args.room.now z) e (opened S (λ z. c.if-h-eq0.false (e ∙ z))) in
    let k = c.put-2.auto.room in
    (omega (arith, k, O.kids, c.get-c.ensures.0), omega (arith, k, S.has.words))

pub push-requires-2 : goal.push-requires-2
push-requires-2 c =
    let S = c.requires in
    let e = c.get-h.ensures.0 in
    let O = subst⁻¹ (λ (z : ℕ). Opened c.args.room.now z) e (opened S (λ z. c.if-h-eq0.false (e ∙ z))) in
    let k = c.put-2.auto.room in
    let k2 = c.push.auto.room in
    (omega (arith, k, k2, O.next, c.get-n.ensures.0), omega (arith, k, k2, S.has.words))

pub returns : goal.returns
unfolding popped
returns c =
    let the-get = c.get-h in
    let w = c.args.room.now in
    let e = the-get.ensures.0 in
    let l = c.get-l.ensures.0 ∙ ap (λ (z : ℕ). at w z 3) e in
    let k = c.get-c.ensures.0 ∙ ap (λ (z : ℕ). at w z 1) e in
    let n = c.get-n.ensures.0 ∙ ap (λ (z : ℕ). at w z 2) e in
    let p = c.put-2.ensures ∙ ap (λ (z : ℕ). poke w 0 3 z) l in
    let q = c.push.ensures ∙ (λ i. pushed (p i) (k i)) in
    subst⁻¹ (λ (u : List ℕ). Takes w the-get.result u) (c.push-2.ensures ∙ (λ i. pushed (q i) (n i)))
    (subst⁻¹ (λ (z : ℕ). Takes w z (popped w)) e (popped-takes w (λ z. c.if-h-eq0.false (e ∙ z))))
