-- How to prove a thing of the forests that the machine makes: one induction for each way of making them.
-- `join-ind` goes by the three ways in which two first roots stand; `grow-of` follows the trees that are grown, one at a time, onto a forest;
-- `long_of_law` follows the go lines of a long reduction.
use Rattle.std.specs.Prelude.{ℕ, zero, suc, ◌≤◌, ◌<◌, ◌≡◌, refl, Bool, true, false, cond, not, List, [], ◌∷◌, eqb, ltb, T}
use Rattle.std.proofs.Common.{sym, subst, T_not, ltb→lt, nltb→le, eqb→eq, arith}
use Rattle.std.proofs.Math.Option.{Option, none, some}
use mathlib.Core.List.Memᴰ.{head as Mem·head}
use mathlib.Core.List.Memᴰ.{tail as Mem·tail}
use mathlib.Core.List.{Memᴰ as Mem}
use Rattle.std.proofs.Math.Dec.{eqb_refl}
use Rattle.theory.proofs.Basics.{place}
use Rattle.theory.specs.Table.{Table, State, Go, no_state, goto}
use Rattle.theory.specs.Table.Facts.{Facts}
use Rattle.theory.specs.Forest.{Forest, nothing, tree, join, weave, meet, above, grow, long, long_of, long_in}
use Rattle.theory.specs.Forest.Joins.{is_none}

-- ---- joins

-- two numbers compared: below, equal or above
by_order : (P : Forest → Type 0) (s s' : ℕ) (low same high : Forest) → (s < s' → P low) → (s ≡ s' → P same) → (s' < s → P high) →
    P (cond (ltb s s') low (cond (eqb s s') same high))
by_order P s s' low same high l e h =
    go (ltb s s') (eqb s s') (ltb→lt s s') (nltb→le s s') (eqb→eq s s')
    (λ t q. T_not (eqb s s') t (subst (λ n. T (eqb s n)) q (eqb_refl s)))
  where
    go : (b c : Bool) → (T b → s < s') → (T (not b) → s' ≤ s) → (T c → s ≡ s') → (T (not c) → s ≡ s' → ⊥) → P (cond b low (cond c same high))
    go true c x y z u = l (x tt)
    go false true x y z u = e (z tt)
    go false false x y z u = let a = y tt in let n = u tt in h (omega arith)

-- Induction for weave: what holds of the second forest and the result.
weave-ind : (R : Forest → Forest → Type 0) (s : ℕ) (k b : Forest) (jk jb : Forest → Forest) →
    R nothing (tree s k b) →
    ((s' : ℕ) (k' b' : Forest) → s < s' → R (tree s' k' b') (tree s k (jb (tree s' k' b')))) →
    ((k' b' : Forest) → R (tree s k' b') (tree s (meet k k' (jk k')) (jb b'))) →
    ((s' : ℕ) (k' b' : Forest) → s' < s → R b' (weave s k b jk jb b') → R (tree s' k' b') (tree s' k' (weave s k b jk jb b'))) →
    (g : Forest) → R g (weave s k b jk jb g)
unfolding weave
weave-ind R s k b jk jb base low same high nothing = base
weave-ind R s k b jk jb base low same high (tree s' k' b') =
    let rest = weave-ind R s k b jk jb base low same high b' in
    by_order (R (tree s' k' b')) s s' (tree s k (jb (tree s' k' b'))) (tree s (meet k k' (jk k')) (jb b')) (tree s' k' (weave s k b jk jb b'))
    (low s' k' b')
    (λ q. subst (λ n. R (tree n k' b') (tree s (meet k k' (jk k')) (jb b'))) q (same k' b'))
    (λ h. high s' k' b' h rest)

-- Induction for join: what holds of two forests and their join.
pub join-ind : (R : Forest → Forest → Forest → Type 0) →
    ((g : Forest) → R nothing g g) →
    ((s : ℕ) (k b : Forest) → R (tree s k b) nothing (tree s k b)) →
    ((s s' : ℕ) (k b k' b' : Forest) → s < s' → R b (tree s' k' b') (join b (tree s' k' b')) →
    R (tree s k b) (tree s' k' b') (tree s k (join b (tree s' k' b')))) →
    ((s : ℕ) (k b k' b' : Forest) → R k k' (join k k') → R b b' (join b b') →
    R (tree s k b) (tree s k' b') (tree s (meet k k' (join k k')) (join b b'))) →
    ((s s' : ℕ) (k b k' b' : Forest) → s' < s → R (tree s k b) b' (join (tree s k b) b') →
    R (tree s k b) (tree s' k' b') (tree s' k' (join (tree s k b) b'))) →
    (f g : Forest) → R f g (join f g)
unfolding join
join-ind R left right low same high nothing g = left g
join-ind R left right low same high (tree s k b) g =
    let inK = join-ind R left right low same high k in
    let in_b = join-ind R left right low same high b in
    weave-ind (λ g r. R (tree s k b) g r) s k b (λ x. join k x) (λ x. join b x)
    (right s k b)
    (λ s' k' b' h. low s s' k b k' b' h (in_b (tree s' k' b')))
    (λ k' b'. same s k b k' b' (inK k') (in_b b'))
    (λ s' k' b' h rest. high s s' k b k' b' h rest)
    g

pub tree-nothing : {s : ℕ} {k b : Forest} → tree s k b ≡ nothing → ⊥
tree-nothing e = subst (λ f. T (not (is_none f))) e tt

-- a join with a tree in it is not empty
pub join-none : (f g : Forest) → T (is_none (join f g)) → T (is_none f)
join-none = join-ind (λ f g r. T (is_none r) → T (is_none f)) (λ g x. tt) (λ s k b x. x) (λ s s' k b k' b' h i x. x) (λ s k b k' b' i j x. x)
    (λ s s' k b k' b' h i x. x)

-- what holds of the empty forest and of two children's join holds of what two merged nodes have below
pub meet-of : (P : Forest → Type 0) (k k' both : Forest) → P nothing → P both → P (meet k k' both)
unfolding meet
meet-of P nothing k' both n b = n
meet-of P (tree s a c) nothing both n b = n
meet-of P (tree s a c) (tree s' a' c') both n b = b

-- ---- growth

-- what holds of nothing and of a new root holds of a new root or none
pub above_of : (P : Forest → Type 0) (o : Option ℕ) (s : ℕ) (k : Forest) → P nothing →
    ((u : ℕ) → o ≡ some u → P (tree u (tree s k nothing) nothing)) → P (above o s k)
above_of P none s k n f = n
above_of P (some u) s k n f = f u refl

-- what each new root keeps, the growth keeps
pub grow-of : (t : Table) (x : ℕ) (P : Forest → Type 0) → ((F : Forest) (s : ℕ) (k : Forest) → P F → P (join F (above (goto t s x) s k))) →
    (d : ℕ) (F to : Forest) → P to → P (grow t x d F to)
unfolding grow
grow-of t x P j d nothing to p = p
grow-of t x P j zero (tree s k b) to p = grow-of t x P j zero b (join to (above (goto t s x) s k)) (j to s k p)
grow-of t x P j (suc d) (tree s k b) to p = grow-of t x P j (suc d) b (grow t x d k to) (grow-of t x P j d k to p)

-- ---- the one-node trees of a long reduction

long-in : (P : Forest → Type 0) → P nothing → ((f g : Forest) → P f → P g → P (join f g)) → (x : ℕ) → (ss : List State) →
    ((s : State) → Mem s ss → (g : Go) → Mem g s.gos → g.on ≡ x → P (tree g.to nothing nothing)) → P (long_of ss x)
unfolding long_of long_in
long-in P n j x [] h = n
long-in P n j x (s ∷ ss) h =
    j (long_in s.gos x) (long_of ss x) (lines s.gos (λ g m. h s (Mem·head refl) g m)) (long-in P n j x ss (λ s' m. h s' (Mem·tail m)))
  where
    pick : (b : Bool) (f g : Forest) → (T b → P f) → P g → P (cond b (join f g) g)
    pick true f g p q = j f g (p tt) q
    pick false f g p q = q

    lines : (gs : List Go) → ((g : Go) → Mem g gs → g.on ≡ x → P (tree g.to nothing nothing)) → P (long_in gs x)
    lines [] h = n
    lines (g ∷ gs) h =
        pick (eqb g.on x) (tree g.to nothing nothing) (long_in gs x) (λ e. h g (Mem·head refl) (eqb→eq g.on x e))
        (lines gs (λ g' m. h g' (Mem·tail m)))

-- what holds of nothing, of joins and of each go target holds of a long reduction's trees
pub long_of_law : {t : Table} → Facts t → (x : ℕ) (P : Forest → Type 0) → P nothing → ((f g : Forest) → P f → P g → P (join f g)) →
    ((c u : ℕ) → goto t c x ≡ some u → P (tree u nothing nothing)) → P (long t x)
unfolding long
long_of_law {t} F x P n j f = long-in P n j x t.states (λ s m g l e.
    let (c, h, o) = place no_state m in
    f c g.to (subst (λ y. goto t c y ≡ some g.to) e (F.go_lines c g (subst (λ (q : State). Mem g q.gos) (sym o) l))))
