-- `sprout` meets its contract: by whether the row has a target.
use Rattle.forest.proofs.Growing.{source_in, state_in}
use Rattle.forest.proofs.Sprouting.{gone_grows, grown_grows, source_left, some_left, some_two, state_of}
use Rattle.forest.specs.Grows.{Grows}
use Rattle.forest.specs.Joins.{SomeTwo, Joins}
use Rattle.forest.specs.Words.{at}
use native.Mathlib.Omega.{arith}
use lib.ListN.{get_or}
use Prim.Native.Nat.{ℕ}
use mathlib.Core.List.{List}
use mathlib.Core.Path.{◌≡◌, ◌∙◌, sym, ap, subst, subst⁻¹}
use Rattle.forest.proofs.trees.sprout.Goals as goal

pub get-s-requires : goal.get-s-requires
get-s-requires c = let S = c.requires.0 in (omega arith, source_in c.args.room.now c.args.row.now c.args.a (λ z. omega (arith, c.requires.1)) S, S.holds.words)

pub bounds-row-s : goal.bounds-row-s
bounds-row-s c =
    omega (arith, state_in c.args.room.now c.args.row.now c.args.a (λ z. omega (arith, c.requires.1)) c.requires.0, c.get-s.ensures.0)

pub push-requires : goal.push-requires
push-requires c = let S = c.requires.0 in (source_in c.args.room.now c.args.row.now c.args.a (λ z. omega (arith, c.requires.1)) S, S.holds.words)

pub returns-in_default : goal.returns-in_default
returns-in_default c =
    let w = c.args.room.now in
    let row = c.args.row.now in
    let a = c.args.a in
    subst⁻¹ (λ (u : List ℕ). Grows w row 0 a u) c.push.ensures
    (gone_grows w row a (λ z. omega (arith, c.requires.1)) c.requires.2
    (ap (λ (i : ℕ). get_or row i 0) (sym c.get-s.ensures.0) ∙ c.in_default.ensures))

pub take-p-requires : goal.take-p-requires
take-p-requires c = some_left c.requires.0

pub lay-requires : goal.lay-requires
lay-requires c =
    let S = c.requires.0 in
    let K = c.take-p.ensures S.P (source_left c.args.room.now S.m c.args.a S.f S.to S.P S.holds) in (
      K.inside,
      omega (arith, K.len, S.holds.words),
      omega (arith, c.in-Some.ensures.1),
      omega (arith, source_in c.args.room.now c.args.row.now c.args.a (λ z. omega (arith, c.requires.1)) S, S.holds.words),
    )

pub insert-requires : goal.insert-requires
insert-requires c =
    let S = c.requires.0 in
    let a = c.args.a in
    let p = c.take-p.result in
    let u = c.in-Some.target in
    let K = c.take-p.ensures S.P (source_left c.args.room.now S.m a S.f S.to S.P S.holds) in (
      subst⁻¹ (λ (l : List ℕ). SomeTwo l 0 1 (at l 0 1) p) c.lay.ensures (some_two S c.take-p.new.room p u c.take-p.ensures),
      K.live,
      subst⁻¹ (λ (l : List ℕ). at l p 0 ≡ u) c.lay.ensures (state_of c.take-p.new.room p u a K.inside),
    )

pub returns : goal.returns
returns c =
    let row = c.args.row.now in
    let p = c.take-p.result in
    let u = c.insert.new.room in
    grown_grows c.args.room.now row c.args.a (λ z. omega (arith, c.requires.1)) c.requires.2 c.in-Some.target
    (ap (λ (i : ℕ). get_or row i 0) (sym c.get-s.ensures.0) ∙ c.in-Some.ensures.0) c.take-p.new.room p c.take-p.ensures u
    (subst (λ (l : List ℕ). Joins l 0 1 (at l 0 1) p u) c.lay.ensures c.insert.ensures)
