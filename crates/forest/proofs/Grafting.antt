-- Two forests of paths, one grafted after the other into the empty forest, and the print of their join. Assumes nothing.
use mathlib.Core.Path.{◌≡◌, ◌∙◌, ap, subst, subst⁻¹}
use mathlib.Core.List.{List, [], ◌∷◌, ◌++◌}
use Prim.Native.Nat.{ℕ, zero, suc, ◌+◌, ◌≤◌}
use native.Mathlib.Omega.{arith}
use lib.ListN.{length, drop}
use lib.Seq.{sets-eq}
use Rattle.theory.specs.Forest as Of
use Rattle.theory.specs.Forest.{Forest, nothing, join}
use Rattle.forest.specs.Words.{at}
use Rattle.forest.specs.Trees.{erase, Rep}
use Rattle.forest.specs.Held.{Held, Merges, SomeExtend}
use Rattle.forest.specs.Starts.{emptied}
use Rattle.forest.specs.Plants.{chain, later, planted}
use Rattle.forest.specs.Prints.{printed, Lists, SomePrint, Prints, RoomFor, shown}
use Rattle.forest.proofs.Growing.{erase-size}
use Rattle.forest.proofs.Spreading.{size-join}
use Rattle.forest.proofs.Holding.{held_total, held_in}
use Rattle.forest.proofs.Reading.{emptied-held}
use Rattle.forest.proofs.Starting.{size-nothing, join-onto_nothing}
use Rattle.forest.proofs.Printing.{printed-length}

-- the paths of some entries have at most as many nodes
paths_size : (us : List ℕ) → Of.size (chain us) + Of.size (later us) ≤ length us
unfolding chain later Of.size
paths_size [] = omega arith
paths_size (zero ∷ us) = omega (arith, paths_size us, size-join (chain us) (later us))
paths_size (suc s ∷ us) = omega (arith, paths_size us)

-- so has their forest
planted-size : (us : List ℕ) → Of.size (planted us) ≤ length us
unfolding planted
planted-size us = omega (arith, paths_size us, size-join (chain us) (later us))

module _ (w first second out : List ℕ) (E : RoomFor w first second out) where
  -- the nodes of the room
  abbrev C : ℕ
  C = length first + length second

  -- first the room holds the empty forest
  none_held : (v : List ℕ) → v ≡ emptied w → Held v C nothing
  none_held v e = subst⁻¹ (λ (l : List ℕ). Held l C nothing) e (emptied-held w C (omega (arith, E.nodes)) E.words).held

  -- there are nodes for the first forest
  first_fits : Of.size nothing + length first ≤ C
  first_fits = omega (arith, size-nothing)

  -- and then for the second
  second_fits : Of.size (planted first) + length second ≤ C
  second_fits = omega (arith, planted-size first)

  -- what the first graft asks
  pub first-graft : (v : List ℕ) → v ≡ emptied w → SomeExtend v first
  first-graft v e = record { C = C; F = nothing; held = none_held v e; room = first_fits }

  module _ (v u : List ℕ) (e : v ≡ emptied w) (A : Merges v first (planted first) u) where
    -- then it holds the first forest
    first-held : Held u C (planted first)
    first-held = subst (λ (z : Forest). Held u C z) (join-onto_nothing (planted first)) (A C nothing (none_held v e) first_fits).held

    -- what the second graft asks
    pub second-graft : SomeExtend u second
    second-graft = record { C = C; F = planted first; held = first-held; room = second_fits }

    module _ (z : List ℕ) (B : Merges u second (planted second) z) (x : ℕ) (r : x ≡ at z 0 1) where
      -- then it holds their join
      both_held : Held z C (join (planted first) (planted second))
      both_held = (B C (planted first) first-held second_fits).held

      -- its trees
      both_lists : Lists z x both_held.tree
      both_lists =
          let H = both_held in
          let t = held_total z C (join (planted first) (planted second)) H in
          record {
            rep = subst⁻¹ (λ (y : ℕ). Rep z y H.tree) r H.rep;
            some = held_in z C (join (planted first) (planted second)) H;
            fits = omega (arith, t, H.fits);
            words = H.words;
          }

      -- their print has places
      both_places : length (printed (erase both_held.tree)) ≤ length out
      both_places =
          let H = both_held in
          let t = held_total z C (join (planted first) (planted second)) H in
          omega (arith, t, E.places, printed-length (erase H.tree), erase-size H.tree)

      -- what the print asks
      pub both_print : SomePrint z x out 0
      both_print = record { f = both_held.tree; holds = both_lists; places = omega (arith, both_places) }

      -- what it leaves
      pub both_shown : (out' : List ℕ) (n : ℕ) → Prints z x out 0 out' n → out' ≡ shown first second out
      both_shown out' n K =
          let p = printed (erase both_held.tree) in
          let l : 0 + length p ≡ length p = omega arith in
          (K both_held.tree both_lists).0
          ∙ sets-eq p out 0 (omega (arith, both_places))
          ∙ ap (λ (i : ℕ). p ++ drop i out) l
          ∙ ap (λ (F : Forest). printed F ++ drop (length (printed F)) out) both_held.is
