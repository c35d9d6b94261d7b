-- A node comes out of the pool. Assumes nothing.
use mathlib.Core.Path.{◌≡◌, ◌∙◌, refl, subst, subst⁻¹}
use mathlib.Core.List.{List, [], ◌∷◌}
use Prim.Native.Nat.{ℕ, zero, suc, ◌+◌, ◌≤◌}
use native.Mathlib.Omega.{arith}
use Rattle.forest.specs.Words.{at, poke, Inside, poke-len, at_same, at_other}
use Rattle.forest.specs.Trees.{Tree, nil, node, one, occ, Rep}
use Rattle.forest.specs.Pools.{Pool, weighs, pooled, Frees, Pooled, add, pushed, popped}
use Rattle.forest.specs.Takes.{Left, SomeLeft, Took, Takes}
use Rattle.forest.proofs.Frame.{not_none, frames, differ, still, no_zero}
use Rattle.forest.proofs.Freeing.{add-weight, push_len, push_rep, push_pool, push_off}
use Rattle.forest.proofs.Turns.{inside_at}

-- node 0's words are in the room
pub zero_in : {w : List ℕ} {P : Pool} → Pooled w P → Inside w 0
zero_in o = omega (arith, o.some, o.within)

-- ---- none is free: the next that was never used
fresh-took : (w : List ℕ) (n u : ℕ) (ts : List Tree) → at w 0 3 ≡ 0 → Left w (record { trees = ts; fresh = n; unused = u }) →
    Took w (poke w 0 0 (n + 1)) n (record { trees = ts; fresh = n; unused = u })
fresh-took w n zero [] e L = absurd (omega (arith, L.some))
fresh-took w n (suc u) [] e L =
    let v = poke w 0 0 (n + 1) in
    record {
      left = record { trees = []; fresh = suc n; unused = u };
      pool =
          record {
            free = at_other w 0 0 (n + 1) 0 3 (omega arith) (omega arith) (λ a b. omega arith) ∙ e;
            fresh = at_same w 0 0 (n + 1) (omega arith) (zero_in L.pool) ∙ omega arith;
            some = omega arith;
            within = omega (arith, L.pool.within, poke-len w 0 0 (n + 1));
          };
      weight = λ m. omega arith;
      live = L.pool.some;
      inside = omega (arith, L.pool.within, poke-len w 0 0 (n + 1));
      kept = λ q i l h o z. at_other w 0 0 (n + 1) q i (omega arith) l (λ a b. let y = z a in omega arith);
      len = poke-len w 0 0 (n + 1);
    }
fresh-took w n u (t ∷ ts) e L = absurd (omega (arith, L.pool.free.0))

-- without free trees the first node never used is taken
pub fresh_takes : (w : List ℕ) → at w 0 3 ≡ 0 → Takes w (at w 0 0) (poke w 0 0 (at w 0 0 + 1))
fresh_takes w e P L =
    subst⁻¹ (λ (n : ℕ). Took w (poke w 0 0 (n + 1)) n P) L.pool.fresh (fresh-took w P.fresh P.unused P.trees e L)

-- ---- the first free tree's root
module _ (w : List ℕ) (h s : ℕ) (k n : Tree) (ts : List Tree) (a u : ℕ) (r : Rep w h (node h s k n)) (rest : Frees w (at w h 3) ts)
    (L : Left w (record { trees = node h s k n ∷ ts; fresh = a; unused = u })) where
  -- the store without the first free tree
  abbrev P₀ : Pool
  P₀ = record { trees = ts; fresh = a; unused = u }

  -- the words when the free list begins with the next tree
  abbrev v₁ : List ℕ
  v₁ = poke w 0 3 (at w h 3)

  -- and the first one's children are freed
  abbrev v₂ : List ℕ
  v₂ = pushed v₁ (at w h 1)

  -- each node stands once
  one₁ : (q : ℕ) → one q h + occ q k + occ q n + pooled (one q) P₀ ≤ 1
  one₁ q = omega (arith, L.once q)

  -- the words hold the smaller store
  pool₁ : Pooled v₁ P₀
  pool₁ =
      record {
        free =
            subst⁻¹ (λ (y : ℕ). Frees v₁ y ts) (at_same w 0 3 (at w h 3) (omega arith) (zero_in L.pool))
            (frames w v₁ ts (at w h 3) (poke-len w 0 3 (at w h 3))
            (λ q g i l. at_other w 0 3 (at w h 3) q i (omega arith) l (λ e z. differ 0 q (λ m. weighs m ts) (no_zero w ts (at w h 3) rest) g e)) rest);
        fresh = at_other w 0 3 (at w h 3) 0 0 (omega arith) (omega arith) (λ e z. omega arith) ∙ L.pool.fresh;
        some = L.pool.some;
        within = omega (arith, L.pool.within, poke-len w 0 3 (at w h 3));
      }

  -- the children are there
  rep_k : Rep v₁ (at w h 1) k
  rep_k = still w 0 3 (at w h 3) k (at w h 1) (omega arith) (not_none w k (at w h 1) r.kids) r.kids

  -- and the trees beside
  rep_n : Rep v₁ (at w h 2) n
  rep_n = still w 0 3 (at w h 3) n (at w h 2) (omega arith) (not_none w n (at w h 2) r.next) r.next

  -- the root is taken, and the rest of its tree is in the store
  took : Took w (pushed v₂ (at w h 2)) h (record { trees = node h s k n ∷ ts; fresh = a; unused = u })
  took =
      let P₁ = add k P₀ in
      let P₂ = add n P₁ in
      let e = poke-len w 0 3 (at w h 3) in
      let e₁ = push_len v₁ (at w h 1) in
      let e₂ = push_len v₂ (at w h 2) in
      record {
        left = P₂;
        pool =
            push_pool v₂ (at w h 2) n P₁ (push_rep v₁ (at w h 1) n (at w h 2) rep_n)
            (push_pool v₁ (at w h 1) k P₀ rep_k pool₁ (λ q. omega (arith, one₁ q)))
            (λ q. omega (arith, one₁ q, add-weight (one q) k P₀));
        weight = λ m. omega (arith, add-weight m n P₁, add-weight m k P₀);
        live = r.live;
        inside = omega (arith, e, e₁, e₂, r.inside);
        kept =
            λ q i l z o y.
            push_off v₂ (at w h 2) n (push_rep v₁ (at w h 1) n (at w h 2) rep_n) q i l (omega arith) y
            ∙ push_off v₁ (at w h 1) k rep_k q i l (omega arith) y
            ∙ at_other w 0 3 (at w h 3) q i (omega arith) l o;
        len = e₂ ∙ e₁ ∙ e;
      }

-- the same at the first of the free trees
took_at : (w : List ℕ) (h : ℕ) (ts : List Tree) (a u : ℕ) → (h ≡ 0 → ⊥) → Frees w h ts → Left w (record { trees = ts; fresh = a; unused = u }) →
    Took w (pushed (pushed (poke w 0 3 (at w h 3)) (at w h 1)) (at w h 2)) h (record { trees = ts; fresh = a; unused = u })
took_at w h [] a u z F L = absurd (z F)
took_at w h (nil ∷ ts) a u z (l, r, rest) L = absurd (z r)
took_at w h (node p s k n ∷ ts) a u z (l, r, rest) L =
    subst⁻¹ (λ (y : ℕ). Took w (pushed (pushed (poke w 0 3 (at w y 3)) (at w y 1)) (at w y 2)) y (record { trees = node p s k n ∷ ts; fresh = a; unused = u })) r.is
    (took w p s k n ts a u (record { is = refl; live = r.live; inside = r.inside; state = r.state; kids = r.kids; next = r.next })
    (subst (λ (y : ℕ). Frees w (at w y 3) ts) r.is rest) L)

-- with free trees the root of the first is taken
pub popped-takes : (w : List ℕ) → (at w 0 3 ≡ 0 → ⊥) → Takes w (at w 0 3) (popped w)
unfolding popped
popped-takes w z P L = took_at w (at w 0 3) P.trees P.fresh P.unused z L.pool.free L

-- ---- what is read lies in the room
pub record Opened (w : List ℕ) (h : ℕ) : Type 0 where
  pub inside : Inside w h
  pub kids : Inside w (at w h 1)
  pub next : Inside w (at w h 2)

-- the first free tree, taken apart
opened_at : (w : List ℕ) (h : ℕ) (ts : List Tree) → Inside w 0 → (h ≡ 0 → ⊥) → Frees w h ts → Opened w h
opened_at w h [] i z F = absurd (z F)
opened_at w h (nil ∷ ts) i z (l, r, rest) = absurd (z r)
opened_at w h (node p s k n ∷ ts) i z (l, r, rest) =
    subst⁻¹ (λ (y : ℕ). Opened w y) r.is
    (record { inside = r.inside; kids = inside_at w 0 k (at w p 1) i r.kids; next = inside_at w 0 n (at w p 2) i r.next })

-- its words are in the room
pub opened : {w : List ℕ} → SomeLeft w → (at w 0 3 ≡ 0 → ⊥) → Opened w (at w 0 3)
opened {w} S z = opened_at w (at w 0 3) S.P.trees (zero_in S.has.pool) z S.has.pool.free
