-- What the parts' laws say of a reduction of a tree that was picked from a held forest.
use mathlib.Core.Path.{◌≡◌, ◌∙◌, sym, ap, subst, subst⁻¹}
use mathlib.Core.Bool.{Bool, true, false, cond}
use mathlib.Core.List.{List}
use Prim.Native.Nat.{ℕ, ◌+◌, ◌≤◌}
use native.Mathlib.Omega.{arith}
use lib.ListN.{length}
use Rattle.theory.specs.Table.{Table}
use Rattle.theory.specs.Forest as Of
use Rattle.theory.specs.Forest.{Forest, nothing, join, grow, short, Rising}
use Rattle.theory.specs.Forest.Sizes.{width}
use Rattle.theory.proofs.Forest.Sizes.{size-split}
use Rattle.theory.proofs.Forest.Counts.{width-rising}
use Rattle.theory.proofs.Forest.Growth.{grow-inner, grow-rising}
use Rattle.forest.specs.Words.{at}
use Rattle.forest.specs.Trees.{erase, one, each, occ, size}
use Rattle.forest.specs.Pools.{pooled}
use Rattle.forest.specs.Rows.{meant}
use Rattle.forest.specs.Grows.{Source, SomeSource, Grows, GrowsTold}
use Rattle.forest.specs.Longs.{leaves}
use Rattle.forest.specs.Held.{Split, Becomes, CanReduce, SomeReduce, ReducesOne, SomeExtend, Extends}
use Rattle.forest.proofs.Frame.{not_none}
use Rattle.forest.proofs.Growing.{untold}
use Rattle.forest.proofs.Runs.{run-once, run-each}
use Rattle.forest.proofs.Sprouting.{pool_no_zero, join-nothing}
use Rattle.forest.proofs.Holding.{size_of, beyond_then, grown_held}

module _ (w : List ℕ) (C p : ℕ) (G F : Forest) (S : Split w C p G F) where
  -- each node stands once
  split_once : (q : ℕ) → occ q S.tree + occ q S.roots + pooled (one q) S.P ≤ 1
  split_once q = omega (arith, S.whole (one q), run-once q 1 C)

  -- there are C in all
  split_total : size S.tree + size S.roots + pooled each S.P ≡ C
  split_total = omega (arith, S.whole each, run-each 1 C)

  -- node 0 is none of them
  split_0 : occ 0 S.tree + occ 0 S.roots + pooled (one 0) S.P ≡ 0
  split_0 = omega (arith, not_none w S.tree p S.rep, not_none w S.roots (at w 0 1) S.rep_roots, pool_no_zero w S.P S.pool)

  -- the tree stands ready to be grown from, onto the others
  pub split_source : (row : List ℕ) (m : ℕ) (t : Table) (y : ℕ) → CanReduce row C m t y G F → Source w m p S.tree S.roots S.P
  split_source row m t y c =
      let a = size_of S.tree S.is in
      let b = size_of S.roots S.is_roots in
      let d : width (erase S.roots) ≡ width F = ap (λ (z : Forest). width z) S.is_roots in
      record {
        source = S.rep;
        roots = S.rep_roots;
        pool = S.pool;
        once = split_once;
        rising = subst⁻¹ (λ (z : Forest). Rising m z) S.is c.rising;
        rising_to = subst⁻¹ (λ (z : Forest). Rising m z) S.is_roots c.rising_roots;
        fits = omega (arith, split_total, S.fits);
        enough = omega (arith, split_total, c.room, c.some, size-split F);
        words = S.words;
      }

  -- what is grown is held
  pub split_held : (row v : List ℕ) (m : ℕ) (t : Table) (y d : ℕ) → CanReduce row C m t y G F → Grows w row d p v → Becomes w v C (grow t y d G F)
  split_held row v m t y d c g =
      grown_held w v C t y d S.tree S.roots S.P (grow t y d G F) S.aside split_0 S.whole S.fits S.words
      (λ i. grow t y d (S.is i) (S.is_roots i)) (g m t y S.tree S.roots S.P c.goes (split_source row m t y c))

-- there is room for the row's trees after what is grown
grow-room : (row : List ℕ) (C m : ℕ) (t : Table) (y d : ℕ) (G F : Forest) → CanReduce row C m t y G F → Of.size (grow t y d G F) + length row ≤ C
grow-room row C m t y d G F c =
    omega (
      arith,
      c.room,
      size-split (grow t y d G F),
      grow-inner t y d G F,
      width-rising m (grow t y d G F)
          (grow-rising t y m c.goes.low d G F c.rising c.rising_roots),
    )

-- what growing asks
pub reduce_some : {w row : List ℕ} {p : ℕ} → SomeReduce w row p → SomeSource w row p
reduce_some {w} {row} {p} S =
    record {
      m = S.m;
      t = S.t;
      y = S.y;
      f = S.split.tree;
      to = S.split.roots;
      P = S.split.P;
      goes = S.can.goes;
      holds = split_source w S.C p S.G S.F S.split row S.m S.t S.y S.can;
    }

-- what the adding of one-node trees asks after it
pub reduce_extend : {w row v : List ℕ} {p d : ℕ} → SomeReduce w row p → {r : Bool} → GrowsTold w row d p v r → SomeExtend v row
reduce_extend {w} {row} {v} {p} {d} S g =
    record {
      C = S.C;
      F = grow S.t S.y d S.G S.F;
      held = (split_held w S.C p S.G S.F S.split row v S.m S.t S.y d S.can (untold g)).held;
      room = grow-room row S.C S.m S.t S.y d S.G S.F S.can;
    }

module _ (w row : List ℕ) (d p : ℕ) (v : List ℕ) (r : Bool) (told : GrowsTold w row d p v r) where
  abbrev g : Grows w row d p v
  g = untold told

  -- the answer is whether the reduction is long
  is_short : (C m : ℕ) (t : Table) (y : ℕ) (G F : Forest) (S : Split w C p G F) → CanReduce row C m t y G F → r ≡ short d G
  is_short C m t y G F S c =
      (told m t y S.tree S.roots S.P c.goes (split_source w C p G F S row m t y c)).1 ∙ ap (λ (z : Forest). short d z) S.is

  -- no path is short
  pub reduces_long : (add : Bool) → r ≡ false → ReducesOne w row d p add v r
  reduces_long add e C m t y G F S c =
      let q = is_short C m t y G F S c in (
        q,
        subst (λ (b : Bool). Becomes w v C (cond b (join (grow t y d G F) (cond add (leaves (meant row) 0 (length row)) nothing)) (grow t y d G F))) (sym e ∙ q)
            (split_held w C p G F S row v m t y d c g),
      )

  -- one is, and nothing is to be added
  pub reduces_short : (add : Bool) → add ≡ false → r ≡ true → ReducesOne w row d p add v r
  reduces_short add a e C m t y G F S c =
      let q = is_short C m t y G F S c in (
        q,
        subst (λ (b : Bool). Becomes w v C (cond b (join (grow t y d G F) (cond add (leaves (meant row) 0 (length row)) nothing)) (grow t y d G F))) (sym e ∙ q)
            (subst (λ (b : Bool). Becomes w v C (join (grow t y d G F) (cond b (leaves (meant row) 0 (length row)) nothing))) (sym a)
            (subst⁻¹ (λ (z : Forest). Becomes w v C z) (join-nothing (grow t y d G F)) (split_held w C p G F S row v m t y d c g))),
      )

  -- one is, and the row's trees are added
  pub reduces_added : (add : Bool) → add ≡ true → r ≡ true → (u : List ℕ) → Extends v row u → ReducesOne w row d p add u r
  reduces_added add a e u x C m t y G F S c =
      let q = is_short C m t y G F S c in
      let B = split_held w C p G F S row v m t y d c g in
      let X = x C (grow t y d G F) B.held (grow-room row C m t y d G F c) in
      let added : Becomes w u C (join (grow t y d G F) (leaves (meant row) 0 (length row)))
      = record { held = X.held; beyond = beyond_then w v u C B.beyond X.beyond } in (
        q,
        subst (λ (b : Bool). Becomes w u C (cond b (join (grow t y d G F) (cond add (leaves (meant row) 0 (length row)) nothing)) (grow t y d G F))) (sym e ∙ q)
            (subst (λ (b : Bool). Becomes w u C (join (grow t y d G F) (cond b (leaves (meant row) 0 (length row)) nothing))) (sym a)
            added),
      )
