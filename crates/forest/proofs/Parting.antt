-- What the laws of choosing say of a held forest: the lowest root that reduces parts from it with its tree.
use mathlib.Core.Path.{◌≡◌, ◌∙◌, refl, sym, ap, subst, subst⁻¹}
use mathlib.Core.Option.{none}
use mathlib.Core.List.{List}
use Prim.Native.Nat.{ℕ, ◌+◌}
use native.Mathlib.Omega.{arith}
use Rattle.theory.specs.Table.{Table}
use Rattle.theory.specs.Forest.{Forest, nothing, tree, choose, Rising}
use Rattle.forest.specs.Words.{at}
use Rattle.forest.specs.Trees.{Tree, nil, node, erase, weigh, one, Rep}
use Rattle.forest.specs.Pools.{pooled, Pooled}
use Rattle.forest.specs.Rows.{Acts}
use Rattle.forest.specs.Picks.{Linked, SomeLinked, First, Choice, Picked, Picks}
use Rattle.forest.specs.Held.{Held, Split, Beyond, Becomes}
use Rattle.forest.proofs.Frame.{pool_frame, differ}
use Rattle.forest.proofs.Runs.{run-above}
use Rattle.forest.proofs.Holding.{held_once, held_total, off_0, held_in}

-- the row is the token's
pub record CanPick (acts : List ℕ) (m : ℕ) (t : Table) (y : ℕ) (F : Forest) : Type 0 where
  pub does : Acts acts m t y
  pub rising : Rising m F

-- no root reduces, and the forest is as it was
pub record NonePicked (w v : List ℕ) (C : ℕ) (t : Table) (y : ℕ) (F : Forest) : Type 0 where
  pub none_is : choose t y F ≡ none
  pub becomes : Becomes w v C F

-- the lowest root that reduces is at r, with its tree, and the room holds the others
pub record OnePicked (w v : List ℕ) (C r : ℕ) (t : Table) (y : ℕ) (F : Forest) : Type 0 where
  pub state : ℕ
  pub kids : Forest
  pub others : Forest
  pub first : First t y F state kids others
  pub at_r : at v r 0 ≡ state
  pub split : Split v C r (tree state kids nothing) others
  pub beyond : Beyond w v C

-- none is picked for the answer 0, one for any other
abbrev pub PicksOne : List ℕ → List ℕ → List ℕ → ℕ → Type 0
PicksOne w acts v r =
    (C m : ℕ) (t : Table) (y : ℕ) (F : Forest) → Held w C F → CanPick acts m t y F →
    (r ≡ 0 → NonePicked w v C t y F) × ((r ≡ 0 → ⊥) → OnePicked w v C r t y F)

module _ (w acts : List ℕ) (C m : ℕ) (t : Table) (y : ℕ) (F : Forest) (H : Held w C F) (c : CanPick acts m t y F) where
  -- the roots stand ready to be chosen from
  pub pick_linked : Linked w 0 1 m H.tree
  pick_linked =
      record {
        rep = H.rep;
        once = λ q. omega (arith, held_once w C F H q);
        apart = omega (arith, off_0 w C F H);
        inside = held_in w C F H;
        link = (omega arith, omega arith);
        rising = subst⁻¹ (λ (z : Forest). Rising m z) H.is c.rising;
        fits = omega (arith, held_total w C F H, H.fits);
        words = H.words;
      }

  module _ (v : List ℕ) (r : ℕ) (Q : Picked w v 0 1 r t y H.tree) where
    -- the store stays
    pool_v : Pooled v H.P
    pool_v =
        pool_frame w v H.P Q.len
        (λ q h i l. Q.kept q i l (omega (arith, held_once w C F H q)) (λ e z. absurd (differ 0 q (λ m. pooled m H.P) (omega (arith, off_0 w C F H)) h e)))
        (Q.kept 0 3 (omega arith) (omega (arith, off_0 w C F H)) (λ e z. omega arith))
        (Q.kept 0 0 (omega arith) (omega (arith, off_0 w C F H)) (λ e z. omega arith))
        H.pool

    -- nothing is set aside
    aside_v : at v 0 2 ≡ 0
    aside_v = Q.kept 0 2 (omega arith) (omega (arith, off_0 w C F H)) (λ e z. omega arith) ∙ H.aside

    -- no node above C has changed
    beyond_v : Beyond w v C
    beyond_v q i h l =
        Q.kept q i l (omega (arith, H.whole (one q), run-above q 1 C (omega arith))) (λ e. absurd (omega arith))

    -- none was picked
    pick_none : (f h : Tree) → Rep v r f → Rep v (at v 0 1) h → Choice t y (erase H.tree) (erase f) (erase h) → ((m : ℕ → ℕ) → weigh m f + weigh m h ≡ weigh m H.tree) → r ≡ 0 → NonePicked w v C t y F
    pick_none nil h rf rh (n, e) o z =
        record {
          none_is = ap (λ (x : Forest). choose t y x) (sym H.is) ∙ n;
          becomes = record {
            held = record {
              tree = h;
              P = H.P;
              rep = rh;
              is = e ∙ H.is;
              pool = pool_v;
              whole = λ k. omega (arith, H.whole k, o k);
              fits = omega (arith, H.fits, Q.len);
              aside = aside_v;
              words = omega (arith, H.words, Q.len);
            };
            beyond = beyond_v;
          };
        }
    pick_none (node p s k n) h rf rh x o z = absurd (omega (arith, rf.is, rf.live))

    -- one was
    pick_one : (f h : Tree) → Rep v r f → Rep v (at v 0 1) h → Choice t y (erase H.tree) (erase f) (erase h) → ((m : ℕ → ℕ) → weigh m f + weigh m h ≡ weigh m H.tree) → (r ≡ 0 → ⊥) → OnePicked w v C r t y F
    pick_one nil h rf rh x o z = absurd (z rf)
    pick_one (node p s k n) h rf rh (b, x) o z =
        record {
          state = s;
          kids = erase k;
          others = erase h;
          first = subst (λ (f : Forest). First t y f s (erase k) (erase h)) H.is x;
          at_r = ap (λ (i : ℕ). at v i 0) rf.is ∙ rf.state;
          split =
              record {
                tree = node p s k n;
                roots = h;
                P = H.P;
                rep = rf;
                is = ap (λ (f : Forest). tree s (erase k) f) b;
                rep_roots = rh;
                is_roots = refl;
                pool = pool_v;
                whole = λ k. omega (arith, H.whole k, o k);
                fits = omega (arith, H.fits, Q.len);
                aside = aside_v;
                words = omega (arith, H.words, Q.len);
              };
          beyond = beyond_v;
        }

    -- by the answer
    picked_one : (r ≡ 0 → NonePicked w v C t y F) × ((r ≡ 0 → ⊥) → OnePicked w v C r t y F)
    picked_one = (
      (λ z. pick_none Q.picked Q.rest Q.rep Q.rep_rest Q.means Q.weight z),
      (λ z. pick_one Q.picked Q.rest Q.rep Q.rep_rest Q.means Q.weight z),
    )

-- what choosing asks
pub pick_some : (w acts : List ℕ) (C m : ℕ) (t : Table) (y : ℕ) (F : Forest) → Held w C F → CanPick acts m t y F → SomeLinked w acts 0 1
pick_some w acts C m t y F H c =
    record { m = m; t = t; y = y; f = H.tree; does = c.does; holds = pick_linked w acts C m t y F H c }

-- what it leaves
pub pick_picks : (w acts v : List ℕ) (r : ℕ) → Picks w acts 0 1 v r → PicksOne w acts v r
pick_picks w acts v r p C m t y F H c =
    picked_one w acts C m t y F H c v r (p m t y H.tree c.does (pick_linked w acts C m t y F H c))
