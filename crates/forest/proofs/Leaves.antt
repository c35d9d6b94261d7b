-- A row's one-node trees are those of a long reduction, and a reduction is the theory's step. Assumes nothing.
use mathlib.Core.Path.{◌≡◌, ◌∙◌, refl, sym, ap, subst}
use mathlib.Core.Bool.{Bool, true, false, cond, not}
use mathlib.Core.Option.{Option, some}
use mathlib.Core.List.{List, [], ◌∷◌, ◌++◌}
use mathlib.Core.List.Memᴰ.{head as Mem·head}
use mathlib.Core.List.Memᴰ.{tail as Mem·tail}
use mathlib.Core.List.{Memᴰ as Mem}
use Prim.Native.Nat.{ℕ, suc, ◌+◌, ◌<◌}
use native.Mathlib.Omega.{arith}
use borrow.Author.Tests.{eqb-true}
use lib.Dec.{eqb}
use lib.ListN.{length, get_or}
use Rattle.theory.proofs.Basics.{place, mem_split}
use Rattle.theory.specs.Table.{Table, State, Go, Fits, no_state, count, go_in, goto, has, rule_at}
use Rattle.theory.specs.Forest.{Forest, nothing, tree, join, grow, short, long_in, long_of, long, Phase, Chosen, reduced}
use Rattle.forest.specs.Longs.{leaf, leaves}
use Rattle.forest.specs.Held.{after}
use Rattle.forest.specs.Rows.{meant, Row}
use Rattle.forest.proofs.Sprouting.{join-nothing}

-- the lines' symbols rise
abbrev Rise : List Go → Type 0
Rise gos = (before after : List Go) (g h : Go) → gos ≡ before ++ (h ∷ after) → Mem g before → g.on < h.on

-- the later lines rise
rise_tail : (g : Go) (gs : List Go) → Rise (g ∷ gs) → Rise gs
rise_tail g gs R b a x h e m = R (g ∷ b) a x h (ap (λ (z : List Go). g ∷ z) e) (Mem·tail m)

-- and are above the first
rise_head : (g h : Go) (gs : List Go) → Rise (g ∷ gs) → Mem h gs → g.on < h.on
rise_head g h gs R m = let (b, a, e) = mem_split m in R (g ∷ b) a g h (ap (λ (z : List Go). g ∷ z) e) (Mem·head refl)

-- without a line on the symbol there is no tree
in_none : (gs : List Go) (x : ℕ) → ((h : Go) → Mem h gs → h.on ≡ x → ⊥) → long_in gs x ≡ nothing
unfolding long_in
in_none [] x n = refl
in_none (g ∷ gs) x n = go (eqb g.on x) refl (in_none gs x (λ h m. n h (Mem·tail m)))
  where
    go : (b : Bool) → eqb g.on x ≡ b → long_in gs x ≡ nothing → cond b (join (tree g.to nothing nothing) (long_in gs x)) (long_in gs x) ≡ nothing
    go true p ih = absurd (n g (Mem·head refl) (eqb-true g.on x p))
    go false p ih = ih

-- a state's one-node tree is that of its line on the symbol
in_leaf : (gs : List Go) (x : ℕ) → Rise gs → leaf (go_in gs x) ≡ long_in gs x
unfolding long_in go_in
in_leaf [] x R = refl
in_leaf (g ∷ gs) x R = go (eqb g.on x) refl (in_leaf gs x (rise_tail g gs R))
  where
    go : (b : Bool) → eqb g.on x ≡ b → leaf (go_in gs x) ≡ long_in gs x →
        leaf (cond b (some g.to) (go_in gs x)) ≡ cond b (join (tree g.to nothing nothing) (long_in gs x)) (long_in gs x)
    go true p ih =
        let e = eqb-true g.on x p in
        sym (ap (λ (z : Forest). join (tree g.to nothing nothing) z) (in_none gs x (λ h m q. let l = rise_head g h gs R m in omega arith))
        ∙ join-nothing (tree g.to nothing nothing))
    go false p ih = ih

-- the row's trees are those of the states' lines
of_states : (ss : List State) (x : ℕ) (h : ℕ → Option ℕ) (i : ℕ) → ((j : ℕ) → h (i + j) ≡ go_in (get_or ss j no_state).gos x) →
    ((s : State) → Mem s ss → Rise s.gos) → leaves h i (length ss) ≡ long_of ss x
unfolding leaves long_of
of_states [] x h i e R = refl
of_states (s ∷ ss) x h i e R =
    let a : h i ≡ go_in s.gos x = ap h (omega arith) ∙ e 0 in
    let b = of_states ss x h (suc i) (λ j. ap h (omega arith) ∙ e (suc j)) (λ z m. R z (Mem·tail m)) in
    let c = ap (λ (z : Option ℕ). leaf z) a ∙ in_leaf s.gos x (R s (Mem·head refl)) in
    (λ i. join (c i) (b i))

-- a row of a symbol gives the one-node trees of its long reduction
pub leaves-long : (row : List ℕ) (m : ℕ) (t : Table) (x : ℕ) → Fits t → Row row m t x → length row ≡ count t → leaves (meant row) 0 (length row) ≡ long t x
unfolding long goto
leaves-long row m t x F R e =
    ap (λ (k : ℕ). leaves (meant row) 0 k) e
    ∙ of_states t.states x (meant row) 0 (λ j. ap (λ (i : ℕ). meant row i) (omega arith) ∙ sym (R.same j))
    (λ s n. let (c, h, o) = place no_state n in subst (λ (z : State). Rise z.gos) o (F.go_rise c))

-- THE LINK: what `reduce` leaves is the theory's step, if the one-node trees are added where the left side is not marked
pub after-reduced : (row : List ℕ) (m : ℕ) (t : Table) (p : Phase) (c : Chosen) → Fits t → Row row m t (rule_at t.grammar c.rule).left → length row ≡ count t →
    after row t (rule_at t.grammar c.rule).left (length (rule_at t.grammar c.rule).right) (not (has p.marked (rule_at t.grammar c.rule).left))
    (tree c.state c.kids nothing) c.others ≡ (reduced t p c).forest
unfolding reduced
after-reduced row m t p c F R e =
    let r = rule_at t.grammar c.rule in
    let root = tree c.state c.kids nothing in
    let grown = grow t r.left (length r.right) root c.others in
    ap (λ (z : Forest). cond (short (length r.right) root) (join grown z) grown) (pick (has p.marked r.left) (leaves-long row m t r.left F R e))
  where
    pick : (b : Bool) {f g : Forest} → f ≡ g → cond (not b) f nothing ≡ cond b nothing g
    pick true q = refl
    pick false q = q
