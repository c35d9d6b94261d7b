use Rattle.forest.proofs.Turns.{turn_less, turn_more, turn_pair, turn_same, kids_fall, first_in, second_in, starts, less, again, kids_in_a, kids_in_b, kids_two, kids_count}
use Rattle.forest.proofs.Below.{left_meets, right_meets, both_meets}
use Rattle.forest.proofs.Keep.{end_left, end_right}
use Rattle.forest.specs.Joins.{SomeTwo, Joins, SomePair, Meets}
use Rattle.forest.specs.Pools.{pushed, dropped}
use Rattle.forest.specs.Trees.{live}
use Rattle.forest.specs.Words.{at, poke}
use native.Mathlib.Omega.{arith}
use Prim.Native.Nat.{ℕ, ◌<◌, ◌+◌, ◌*◌}
use mathlib.Core.List.{List}
use mathlib.Core.Path.{◌∙◌, refl, sym, ap, subst, subst⁻¹}
use Rattle.forest.proofs.trees.+join_meet.Goals as goal

pub join-loop-a-init : goal.join-loop-a-init
join-loop-a-init t c = starts c.requires

pub join-put-requires : goal.join-put-requires
join-put-requires t c = let S = c.loop-a.invariant.some in
    (omega (arith, S.two.link), S.two.inside, S.two.words, omega (arith, first_in S, S.two.words))

pub join-returns-then-b-eq0 : goal.join-returns-then-b-eq0
join-returns-then-b-eq0 t c =
    let g = c.loop-a in
    subst⁻¹ (λ (u : List ℕ). Joins c.args.room.now c.args.to c.args.word c.args.x c.args.y u) c.put.ensures
    (g.invariant.back _ (end_right g.room g.d g.j g.a g.b c.if-b-eq0.true))

pub join-get-s-requires : goal.join-get-s-requires
join-get-s-requires t c = let S = c.loop-a.invariant.some in
    (omega arith, first_in S, S.two.words)

pub join-get-t-requires : goal.join-get-t-requires
join-get-t-requires t c =
    let S = c.loop-a.invariant.some in
    (omega arith, second_in S, S.two.words)

pub join-get-n-requires : goal.join-get-n-requires
join-get-n-requires t c =
    let S = c.loop-a.invariant.some in
    (omega arith, first_in S, S.two.words)

pub join-put-requires-then-s-t : goal.join-put-requires-then-s-t
join-put-requires-then-s-t t c =
    let S = c.loop-a.invariant.some in
    (omega (arith, S.two.link), S.two.inside, S.two.words, omega (arith, first_in S, S.two.words))

pub join-get-n-requires-then-t-s : goal.join-get-n-requires-then-t-s
join-get-n-requires-then-t-s t c =
    let S = c.loop-a.invariant.some in
    (omega arith, second_in S, S.two.words)

pub join-put-requires-then-t-s : goal.join-put-requires-then-t-s
join-put-requires-then-t-s t c =
    let S = c.loop-a.invariant.some in
    (omega (arith, S.two.link), S.two.inside, S.two.words, omega (arith, second_in S, S.two.words))

pub join-get-n-requires-else-t-s : goal.join-get-n-requires-else-t-s
join-get-n-requires-else-t-s t c =
    let S = c.loop-a.invariant.some in
    (omega arith, first_in S, S.two.words)

pub join-get-m-requires : goal.join-get-m-requires
join-get-m-requires t c =
    let S = c.loop-a.invariant.some in
    (omega arith, second_in S, S.two.words)

pub join-put-requires-else-t-s : goal.join-put-requires-else-t-s
join-put-requires-else-t-s t c =
    let S = c.loop-a.invariant.some in
    (omega (arith, S.two.link), S.two.inside, S.two.words, omega (arith, first_in S, S.two.words))

pub join-meet-requires : goal.join-meet-requires
join-meet-requires t c =
    let g = c.loop-a in
    let G = g.invariant in
    let S = G.some in
    let x0 = c.loop-a-test.true in
    let y0 = c.if-b-eq0.false in
    let e = c.put-else-t-s.ensures in (
      subst⁻¹ (λ (l : List ℕ). 2 * (live l (at l g.a 1) + live l (at l g.b 1)) + 1 < t) e
          (omega (arith, kids_fall g.room g.d g.j g.a g.b x0 y0 S, G.fewer, c.decreases)),
      subst⁻¹ (λ (l : List ℕ). SomePair l g.a g.b) e (turn_pair g.room g.d g.j g.a g.b x0 y0 S),
    )

pub join-loop-a-smaller-then-s-t : goal.join-loop-a-smaller-then-s-t
join-loop-a-smaller-then-s-t t c =
    let g = c.loop-a in
    let G = g.invariant in
    let T = turn_less g.room g.d g.j g.a g.b c.loop-a-test.true c.if-b-eq0.false G.some
    (omega (arith, c.get-s.ensures.0, c.get-t.ensures.0, c.if-s-t.true)) in
    less G T c.put-then-s-t.ensures c.get-n.ensures.0 refl

pub join-loop-a-preserved-then-s-t : goal.join-loop-a-preserved-then-s-t
join-loop-a-preserved-then-s-t t c =
    let g = c.loop-a in
    let the-put2 = c.put-then-s-t in
    let G = g.invariant in
    let T = turn_less g.room g.d g.j g.a g.b c.loop-a-test.true c.if-b-eq0.false G.some
    (omega (arith, c.get-s.ensures.0, c.get-t.ensures.0, c.if-s-t.true)) in
    again G T the-put2.ensures c.get-n.ensures.0 refl the-put2.auto.room

pub join-loop-a-smaller-then-t-s : goal.join-loop-a-smaller-then-t-s
join-loop-a-smaller-then-t-s t c =
    let g = c.loop-a in
    let G = g.invariant in
    let T = turn_more g.room g.d g.j g.a g.b c.loop-a-test.true c.if-b-eq0.false G.some
    (omega (arith, c.get-s.ensures.0, c.get-t.ensures.0, c.if-t-s.true)) in
    less G T c.put-then-t-s.ensures refl c.get-n-then-t-s.ensures.0

pub join-loop-a-preserved-then-t-s : goal.join-loop-a-preserved-then-t-s
join-loop-a-preserved-then-t-s t c =
    let g = c.loop-a in
    let the-put3 = c.put-then-t-s in
    let G = g.invariant in
    let T = turn_more g.room g.d g.j g.a g.b c.loop-a-test.true c.if-b-eq0.false G.some
    (omega (arith, c.get-s.ensures.0, c.get-t.ensures.0, c.if-t-s.true)) in
    again G T the-put3.ensures refl c.get-n-then-t-s.ensures.0 the-put3.auto.room

pub join-loop-a-smaller : goal.join-loop-a-smaller
join-loop-a-smaller t c =
    let g = c.loop-a in
    let the-meet = c.meet in
    let G = g.invariant in
    let M = subst (λ (l : List ℕ). Meets l g.a g.b the-meet.new.room) c.put-else-t-s.ensures the-meet.ensures in
    let T = turn_same g.room g.d g.j g.a g.b c.loop-a-test.true c.if-b-eq0.false G.some
    (omega (arith, c.get-s.ensures.0, c.get-t.ensures.0, c.if-s-t.false, c.if-t-s.false)) the-meet.new.room M in
    less G T refl c.get-n-else-t-s.ensures.0 c.get-m.ensures.0

pub join-loop-a-preserved : goal.join-loop-a-preserved
join-loop-a-preserved t c =
    let g = c.loop-a in
    let the-put4 = c.put-else-t-s in
    let the-meet = c.meet in
    let G = g.invariant in
    let M = subst (λ (l : List ℕ). Meets l g.a g.b the-meet.new.room) the-put4.ensures the-meet.ensures in
    let T = turn_same g.room g.d g.j g.a g.b c.loop-a-test.true c.if-b-eq0.false G.some
    (omega (arith, c.get-s.ensures.0, c.get-t.ensures.0, c.if-s-t.false, c.if-t-s.false)) the-meet.new.room M in
    again G T refl c.get-n-else-t-s.ensures.0 c.get-m.ensures.0 (the-meet.auto.room ∙ the-put4.auto.room)

pub join-put-requires-2 : goal.join-put-requires-2
join-put-requires-2 t c = let S = c.loop-a.invariant.some in
    (omega (arith, S.two.link), S.two.inside, S.two.words, omega (arith, second_in S, S.two.words))

pub join-returns : goal.join-returns
join-returns t c =
    let g = c.loop-a in
    subst⁻¹ (λ (u : List ℕ). Joins c.args.room.now c.args.to c.args.word c.args.x c.args.y u) c.put-2.ensures
    (g.invariant.back _ (end_left g.room g.d g.j g.a g.b c.loop-a-test.false))

pub meet-get-c-requires : goal.meet-get-c-requires
meet-get-c-requires t c = let Q = c.requires.pair in (omega arith, Q.inside, Q.words)

pub meet-get-e-requires : goal.meet-get-e-requires
meet-get-e-requires t c =
    let Q = c.requires.pair in
    (omega arith, Q.inside_b, Q.words)

pub meet-drop_one-requires : goal.meet-drop_one-requires
meet-drop_one-requires t c =
    let Q = c.requires.pair in
    (Q.inside_b, Q.words)

pub meet-push-requires : goal.meet-push-requires
meet-push-requires t c =
    let S = c.requires in
    let k = c.drop_one.auto.room in
    (omega (arith, k, kids_in_b S, c.get-e.ensures.0), omega (arith, k, S.pair.words))

pub meet-returns-then-c-eq0 : goal.meet-returns-then-c-eq0
meet-returns-then-c-eq0 t c =
    let w = c.args.room.now in
    let a = c.args.a in
    let b = c.args.b in
    subst⁻¹ (λ (u : List ℕ). Meets w a b u)
    (c.push.ensures ∙ (λ i. pushed (c.drop_one.ensures i) (c.get-e.ensures.0 i)))
    (left_meets w a b (sym c.get-c.ensures.0 ∙ c.if-c-eq0.true))

pub meet-put-requires : goal.meet-put-requires
meet-put-requires t c =
    let Q = c.requires.pair in
    let k = c.drop_one.auto.room in
    (omega arith, omega (arith, k, Q.inside), omega (arith, k, Q.words), omega arith)

pub meet-push-requires-then-e-eq0 : goal.meet-push-requires-then-e-eq0
meet-push-requires-then-e-eq0 t c =
    let S = c.requires in
    let k = c.drop_one.auto.room in
    let h = c.put.auto.room in
    (omega (arith, k, h, kids_in_a S, c.get-c.ensures.0), omega (arith, k, h, S.pair.words))

pub meet-returns-then-e-eq0 : goal.meet-returns-then-e-eq0
meet-returns-then-e-eq0 t c =
    let w = c.args.room.now in
    let a = c.args.a in
    let b = c.args.b in
    subst⁻¹ (λ (u : List ℕ). Meets w a b u)
    (c.push-then-e-eq0.ensures ∙ (λ i. pushed
    ((c.put.ensures ∙ ap (λ (l : List ℕ). poke l a 1 0) c.drop_one.ensures) i) (c.get-c.ensures.0 i)))
    (right_meets w a b (sym c.get-e.ensures.0 ∙ c.if-e-eq0.true))

pub meet-join-requires : goal.meet-join-requires
meet-join-requires t c =
    let the-get = c.get-c in
    let the-get2 = c.get-e in
    let S = c.requires in
    let w = c.args.room.now in
    let a = c.args.a in
    let b = c.args.b in
    let e = c.drop_one.ensures in
    let ca = the-get.ensures.0 in
    let cb = the-get2.ensures.0 in (
      subst⁻¹ (λ (l : List ℕ). 2 * (live l the-get.result + live l the-get2.result) < t) e
          (subst⁻¹ (λ (z : ℕ). 2 * (live (dropped w b) z + live (dropped w b) the-get2.result) < t) ca
          (subst⁻¹ (λ (z : ℕ). 2 * (live (dropped w b) (at w a 1) + live (dropped w b) z) < t) cb
          (omega (arith, kids_count S, c.decreases)))),
      subst⁻¹ (λ (l : List ℕ). SomeTwo l a 1 the-get.result the-get2.result) e
          (subst⁻¹ (λ (z : ℕ). SomeTwo (dropped w b) a 1 z the-get2.result) ca
          (subst⁻¹ (λ (z : ℕ). SomeTwo (dropped w b) a 1 (at w a 1) z) cb (kids_two S))),
    )

pub meet-returns : goal.meet-returns
meet-returns t c =
    let the-get = c.get-c in
    let the-get2 = c.get-e in
    let the-join = c.join in
    let w = c.args.room.now in
    let a = c.args.a in
    let b = c.args.b in
    let ca = the-get.ensures.0 in
    let cb = the-get2.ensures.0 in
    both_meets w a b (λ z. c.if-c-eq0.false (ca ∙ z)) (λ z. c.if-e-eq0.false (cb ∙ z)) _
    (subst (λ (z : ℕ). Joins (dropped w b) a 1 (at w a 1) z the-join.new.room) cb
    (subst (λ (z : ℕ). Joins (dropped w b) a 1 z the-get2.result the-join.new.room) ca
    (subst (λ (l : List ℕ). Joins l a 1 the-get.result the-get2.result the-join.new.room) c.drop_one.ensures the-join.ensures)))
