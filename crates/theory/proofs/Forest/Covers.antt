-- No path is lost: each path that a step, a shift or a join should keep has a top part in the forest that is made.
-- A forest covers a stack if some path of it is a top part of the stack; covering passes through joins, growth and long reductions.
use Rattle.std.specs.Prelude.{ℕ, zero, suc, ◌≤◌, ◌≡◌, refl, Bool, true, false, cond, length, get_or, drop, eqb}
use Rattle.std.proofs.Common.{le_of_suc-le-suc, not-suc-le-zero, sym, ap, ◌∙◌, subst}
use Rattle.std.proofs.Math.Bool.{or-true}
use Rattle.std.proofs.Math.Option.{Option, none, some, none-ne-some, some-ne-none, some-injective}
use mathlib.Core.List.{List, [], ◌∷◌, ◌++◌, append_assoc, append-nil, nil≢cons, head-eq_of_cons-eq}
use Rattle.std.proofs.Math.Seq.{drop-nil}
use Rattle.theory.specs.Table.{Table, State, Go, no_state, go_in, goto, reduce_on, has}
use Rattle.theory.specs.Forest.{Forest, nothing, tree, meet, join, above, grow, short, long_in, long_of, long, Phase, Chosen, chosen, choose, reduced, Path, leaf, down, next}
use Rattle.theory.proofs.Forest.Joins.{join-ind}
use Rattle.theory.specs.Forest.Paths.{root_of, left_of, length_of}
use Rattle.theory.proofs.Forest.Paths.{no_path}
use Rattle.theory.specs.Forest.Covers.{Covers}

-- a path covers itself
covers_self : {f : Forest} {p : List ℕ} → Path f p → Covers f p
covers_self {p} q = record { path = p; below = []; is_path = q; splits = sym (append-nil p) }

-- what covers the paths of f covers the stacks that f covers
covers_through : {f g : Forest} → ((p : List ℕ) → Path f p → Covers g p) → {σ : List ℕ} → Covers f σ → Covers g σ
covers_through h c =
    let d = h c.path c.is_path in
    record {
      path = d.path;
      below = d.below ++ c.below;
      is_path = d.is_path;
      splits = c.splits ∙ ap (λ (l : List ℕ). l ++ c.below) d.splits ∙ append_assoc d.path d.below c.below;
    }

-- the same top part in another forest
pub covers_by : {f g : Forest} {σ : List ℕ} (c : Covers f σ) → Path g c.path → Covers g σ
covers_by c q = record { path = c.path; below = c.below; is_path = q; splits = c.splits }

-- a longer stack, with the same top
pub covers_deeper : {f : Forest} {σ : List ℕ} → Covers f σ → (ρ : List ℕ) → Covers f (σ ++ ρ)
covers_deeper c ρ =
    record {
      path = c.path;
      below = c.below ++ ρ;
      is_path = c.is_path;
      splits = ap (λ (l : List ℕ). l ++ ρ) c.splits ∙ append_assoc c.path c.below ρ;
    }

-- the same below a root, and beside a tree
covers_down : {s : ℕ} {kids beside : Forest} {p : List ℕ} → Covers kids p → Covers (tree s kids beside) (s ∷ p)
covers_down {s} c = record { path = s ∷ c.path; below = c.below; is_path = down c.is_path; splits = ap {B = List ℕ} (λ l. s ∷ l) c.splits }

covers_next : {s : ℕ} {kids beside : Forest} {p : List ℕ} → Covers beside p → Covers (tree s kids beside) p
covers_next c = covers_by c (next c.is_path)

-- a root with nothing below it covers every stack with its state on top
covers_root : {s : ℕ} {beside : Forest} (p : List ℕ) → Covers (tree s nothing beside) (s ∷ p)
covers_root {s} p = record { path = s ∷ []; below = p; is_path = leaf; splits = refl }

-- the empty forest covers nothing
pub none_covered : {σ : List ℕ} → Covers nothing σ → ⊥
none_covered c = no_path c.is_path

-- ---- joins

-- merged children, from the first tree's and from the second's
meet_left : {s : ℕ} {b : Forest} (k k' m : Forest) → ((p : List ℕ) → Path k p → Covers m p) → (p : List ℕ) → Path k p →
    Covers (tree s (meet k k' m) b) (s ∷ p)
unfolding meet
meet_left nothing k' m h p q = elim q [ ]
meet_left (tree c d e) nothing m h p q = covers_root p
meet_left (tree c d e) (tree c' d' e') m h p q = covers_down (h p q)

meet_right : {s : ℕ} {b : Forest} (k k' m : Forest) → ((p : List ℕ) → Path k' p → Covers m p) → (p : List ℕ) → Path k' p →
    Covers (tree s (meet k k' m) b) (s ∷ p)
unfolding meet
meet_right nothing nothing m h p q = elim q [ ]
meet_right (tree c d e) nothing m h p q = elim q [ ]
meet_right nothing (tree c' d' e') m h p q = covers_root p
meet_right (tree c d e) (tree c' d' e') m h p q = covers_down (h p q)

-- two trees with one root, merged
same_left : (s : ℕ) (k b k' m n : Forest) → ((p : List ℕ) → Path k p → Covers m p) → ((p : List ℕ) → Path b p → Covers n p) →
    (p : List ℕ) → Path (tree s k b) p → Covers (tree s (meet k k' m) n) p
unfolding meet
same_left s k b k' m n h i p leaf = covers_root []
same_left s k b k' m n h i p (down {p = p'} q) = meet_left k k' m h p' q
same_left s k b k' m n h i p (next q) = covers_next (i p q)

same_right : (s : ℕ) (k k' b' m n : Forest) → ((p : List ℕ) → Path k' p → Covers m p) → ((p : List ℕ) → Path b' p → Covers n p) →
    (p : List ℕ) → Path (tree s k' b') p → Covers (tree s (meet k k' m) n) p
unfolding meet
same_right s nothing k' b' m n h i p leaf = covers_root []
same_right s (tree c d e) k' b' m n h i p leaf = covers_root []
same_right s k k' b' m n h i p (down {p = p'} q) = meet_right k k' m h p' q
same_right s k k' b' m n h i p (next q) = covers_next (i p q)

-- a tree with another forest beside it
beside : (s : ℕ) (k b n : Forest) → ((p : List ℕ) → Path b p → Covers n p) → (p : List ℕ) → Path (tree s k b) p → Covers (tree s k n) p
beside s k b n i p leaf = covers_root []
beside s k b n i p (down q) = covers_self (down q)
beside s k b n i p (next q) = covers_next (i p q)

-- every path of either forest has a top part in their join
join-left : (f g : Forest) (p : List ℕ) → Path f p → Covers (join f g) p
join-left = join-ind (λ f g r. (p : List ℕ) → Path f p → Covers r p)
    (λ g p q. absurd (no_path q))
    (λ s k b p q. covers_self q)
    (λ s s' k b k' b' l i p q. beside s k b _ i p q)
    (λ s k b k' b' i j p q. same_left s k b k' _ _ i j p q)
    (λ s s' k b k' b' l i p q. covers_next (i p q))

join-right : (f g : Forest) (p : List ℕ) → Path g p → Covers (join f g) p
join-right = join-ind (λ f g r. (p : List ℕ) → Path g p → Covers r p)
    (λ g p q. covers_self q)
    (λ s k b p q. absurd (no_path q))
    (λ s s' k b k' b' l i p q. covers_next (i p q))
    (λ s k b k' b' i j p q. same_right s k k' b' _ _ i j p q)
    (λ s s' k b k' b' l i p q. beside s' k' b' _ i p q)

in_left : (f g : Forest) {σ : List ℕ} → Covers f σ → Covers (join f g) σ
in_left f g = covers_through (join-left f g)

in_right : (f g : Forest) {σ : List ℕ} → Covers g σ → Covers (join f g) σ
in_right f g = covers_through (join-right f g)

-- ---- growth

-- what there is stays
pub grow-keeps : (t : Table) (x d : ℕ) (f to : Forest) {σ : List ℕ} → Covers to σ → Covers (grow t x d f to) σ
unfolding grow
grow-keeps t x d nothing to c = c
grow-keeps t x zero (tree s k b) to c = grow-keeps t x zero b _ (in_left to (above (goto t s x) s k) c)
grow-keeps t x (suc d) (tree s k b) to c = grow-keeps t x (suc d) b _ (grow-keeps t x d k to c)

-- the new root above a tree covers the new stack
above-covers : (t : Table) (x : ℕ) {s v u : ℕ} {kids : Forest} {p under : List ℕ} → goto t v x ≡ some u → Path (tree s kids nothing) (s ∷ p) →
    s ∷ p ≡ v ∷ under →
    Covers (above (goto t s x) s kids) (u ∷ (v ∷ under))
above-covers t x {s} {v} {u} {kids} {p} {under} g q e =
    let h : goto t s x ≡ some u = rw (head-eq_of_cons-eq e) g in
    let c : Covers (above (goto t s x) s kids) (u ∷ (s ∷ p)) = rw h (covers_self (down q)) in
    subst (λ l. Covers (above (goto t s x) s kids) (u ∷ l)) e c

-- a path that is longer than the depth, with what stands above that depth replaced by the new root, has a top part there
pub grow-covers : (t : Table) (x d : ℕ) (f to : Forest) {p : List ℕ} {v u : ℕ} {under : List ℕ} → Path f p → drop d p ≡ v ∷ under →
    goto t v x ≡ some u →
    Covers (grow t x d f to) (u ∷ (v ∷ under))
unfolding grow
grow-covers t x zero nothing to q e g = elim q [ ]
grow-covers t x (suc d) nothing to q e g = elim q [ ]
grow-covers t x zero (tree s k b) to leaf e g = grow-keeps t x zero b _ (in_right to _ (above-covers t x g leaf e))
grow-covers t x zero (tree s k b) to (down q) e g = grow-keeps t x zero b _ (in_right to _ (above-covers t x g (down q) e))
grow-covers t x zero (tree s k b) to (next q) e g = grow-covers t x zero b _ q e g
grow-covers t x (suc d) (tree s k b) to leaf e g = absurd (nil≢cons (sym (drop-nil d) ∙ e))
grow-covers t x (suc d) (tree s k b) to (down q) e g = grow-keeps t x (suc d) b _ (grow-covers t x d k to q e g)
grow-covers t x (suc d) (tree s k b) to (next q) e g = grow-covers t x (suc d) b _ q e g

-- ---- long reductions

-- a path has a node
path_node : {f : Forest} {p : List ℕ} → Path f p → length p ≤ 0 → ⊥
path_node leaf h = not-suc-le-zero h
path_node (down q) h = not-suc-le-zero h
path_node (next q) h = path_node q h

-- a path of at most so many nodes makes the forest short
pub path_short : (d : ℕ) (f : Forest) {p : List ℕ} → Path f p → length p ≤ d → short d f ≡ true
unfolding short
path_short zero nothing q h = elim q [ ]
path_short (suc d) nothing q h = elim q [ ]
path_short zero (tree s kids beside) q h = absurd (path_node q h)
path_short (suc d) (tree s nothing beside) q h = refl
path_short (suc d) (tree s (tree a b c) beside) (down q) h = rw (path_short d (tree a b c) q (le_of_suc-le-suc h))
path_short (suc d) (tree s (tree a b c) beside) (next q) h = rw (path_short (suc d) beside q h) (or-true (short d (tree a b c)))

-- the target of every go line on a symbol is a root of `long`
long_in-covers : (gs : List Go) (x u : ℕ) → go_in gs x ≡ some u → Covers (long_in gs x) (u ∷ [])
unfolding go_in long_in
long_in-covers [] x u e = absurd (none-ne-some u e)
long_in-covers (g ∷ gs) x u e = go (eqb g.on x) (long_in-covers gs x u) e
  where
    go : (b : Bool) → (go_in gs x ≡ some u → Covers (long_in gs x) (u ∷ [])) → cond b (some g.to) (go_in gs x) ≡ some u →
        Covers (cond b (join (tree g.to nothing nothing) (long_in gs x)) (long_in gs x)) (u ∷ [])
    go true later e = in_left (tree g.to nothing nothing) _ (subst (λ v. Covers (tree g.to nothing nothing) (v ∷ []))
        (some-injective g.to u e) (covers_root []))
    go false later e = later e

long_of-covers : (ss : List State) (s x u : ℕ) → go_in (get_or ss s no_state).gos x ≡ some u → Covers (long_of ss x) (u ∷ [])
unfolding long_of
long_of-covers [] s x u e = absurd (none-ne-some u (unfold go_in in e))
long_of-covers (r ∷ rs) zero x u e = in_left (long_in r.gos x) _ (long_in-covers r.gos x u e)
long_of-covers (r ∷ rs) (suc s) x u e = in_right (long_in r.gos x) _ (long_of-covers rs s x u e)

pub long-covers : (t : Table) (s x u : ℕ) → goto t s x ≡ some u → (σ : List ℕ) → Covers (long t x) (u ∷ σ)
unfolding long goto
long-covers t s x u e σ = covers_deeper (long_of-covers t.states s x u e) σ

-- ---- the chosen root

-- none is chosen only if the first does not reduce and none of the others is chosen
chosen_none : (s : ℕ) (kids beside : Forest) (o : Option ℕ) (later : Option Chosen) → chosen s kids beside o later ≡ none → (o ≡ none) ×
    (later ≡ none)
unfolding chosen
chosen_none s kids beside (some r) later e = absurd (some-ne-none _ e)
chosen_none s kids beside none none e = (refl, refl)
chosen_none s kids beside none (some c) e = absurd (some-ne-none _ e)

-- where none is chosen no root reduces
pub choose-none : (t : Table) (a : ℕ) {f : Forest} {p : List ℕ} → Path f p → choose t a f ≡ none → (s : ℕ) (q : List ℕ) → p ≡ s ∷ q →
    reduce_on t s a ≡ none
unfolding choose
choose-none t a (leaf {s = r}) e s q h = rw (← head-eq_of_cons-eq h) (chosen_none r _ _ _ _ e).0
choose-none t a (down {s = r} k) e s q h = rw (← head-eq_of_cons-eq h) (chosen_none r _ _ _ _ e).0
choose-none t a (next {s = r} k) e s q h = choose-none t a k (chosen_none r _ _ _ _ e).1 s q h

-- ---- a step

module _ (t : Table) (p : Phase) (c : Chosen) where
  -- with or without another forest
  either_way : (b : Bool) (g f : Forest) {σ : List ℕ} → Covers g σ → Covers (cond b (join g f) g) σ
  either_way true g f k = in_left g f k
  either_way false g f k = k

  -- the trees beside stay
  pub others-stay : {σ : List ℕ} → Covers c.others σ → Covers (reduced t p c).forest σ
  unfolding reduced
  others-stay k = either_way (short (length_of t c) (root_of c)) _ _ (grow-keeps t (left_of t c) (length_of t c) (root_of c) c.others k)

  -- what grows is there
  pub grown_in : {q : List ℕ} {v u : ℕ} {under : List ℕ} → Path (root_of c) q → drop (length_of t c) q ≡ v ∷ under → goto t v (left_of t c) ≡ some u →
      Covers (reduced t p c).forest (u ∷ (v ∷ under))
  unfolding reduced
  grown_in k e g = either_way (short (length_of t c) (root_of c)) _ _ (grow-covers t (left_of t c) (length_of t c) (root_of c) c.others k e g)

  -- and so is a long reduction to a nonterminal that is not yet marked
  pub long-in : {σ : List ℕ} → short (length_of t c) (root_of c) ≡ true → has p.marked (left_of t c) ≡ false → Covers (long t (left_of t c)) σ →
      Covers (reduced t p c).forest σ
  unfolding reduced
  long-in e h k = rw (e, h) (in_right _ _ k)
