-- No path comes from nowhere: a path of what the machine makes is one of a forest that it was made from, or that with a new root on top,
-- or one node that a go line leads to. By the inductions of Joins; `reduced-path` puts them together for a step.
use Rattle.std.specs.Prelude.{ℕ, zero, suc, ◌≤◌, ◌≡◌, refl, ◌⊎◌, Bool, true, false, cond, ◌||◌, List, [], ◌∷◌, length}
use Rattle.std.proofs.Common.{suc-le-suc, arith, ap, ◌∙◌, inl, inr, ⊎_elim}
use Rattle.std.proofs.lemmas.Bool.{false≢true}
use Rattle.std.proofs.Math.Option.{Option, none, some}
use Rattle.theory.specs.Table.{Table, goto, has}
use Rattle.theory.specs.Table.Facts.{Facts}
use Rattle.theory.specs.Forest.{Forest, nothing, tree, meet, join, above, grow, short, long, Phase, Chosen, reduced, Path, leaf, down, next}
use Rattle.theory.proofs.Forest.Joins.{join-ind, join-none, tree-nothing, long_of_law}
use Rattle.theory.specs.Forest.Taken.{Taken, here, later}
use Rattle.theory.specs.Forest.Paths.{Grown, root_of, left_of, length_of}

-- ---- one tree

pub no_path : {p : List ℕ} → Path nothing p → ⊥
no_path h = elim h [ ]

-- a path is in the first tree or in those beside it
path_cases : {s : ℕ} {kids beside : Forest} {p : List ℕ} → Path (tree s kids beside) p → Path (tree s kids nothing) p ⊎ Path beside p
path_cases leaf = inl leaf
path_cases (down h) = inl (down h)
path_cases (next h) = inr h

-- a path of the tree alone is one with any trees beside it
path_beside : {s : ℕ} {kids : Forest} (beside : Forest) {p : List ℕ} → Path (tree s kids nothing) p → Path (tree s kids beside) p
path_beside beside leaf = leaf
path_beside beside (down h) = down h
path_beside beside (next h) = absurd (no_path h)

-- a path of the tree alone is the root and a path of the children, if it has any
root_cases : {s : ℕ} {kids : Forest} {p : List ℕ} → Path (tree s kids nothing) p → ((kids ≡ nothing) × (p ≡ s ∷ [])) ⊎
    ((q : List ℕ) × Path kids q × (p ≡ s ∷ q))
root_cases leaf = inl (refl, refl)
root_cases (down {p} h) = inr (p, h, refl)
root_cases (next h) = absurd (no_path h)

pub root_first : {s : ℕ} {kids : Forest} {p : List ℕ} → Path (tree s kids nothing) p → (q : List ℕ) × (p ≡ s ∷ q)
root_first h = ⊎_elim (λ x. ([], x.1)) (λ x. (x.0, x.2)) (root_cases h)

-- a path is not empty
pub path_cons : {f : Forest} {p : List ℕ} → Path f p → (s : ℕ) × (q : List ℕ) × (p ≡ s ∷ q)
path_cons (leaf {s}) = (s, [], refl)
path_cons (down {s} {p} h) = (s, p, refl)
path_cons (next h) = path_cons h

-- a forest that is not empty has a path
pub some_path : (s : ℕ) (kids beside : Forest) → (p : List ℕ) × Path (tree s kids beside) p
some_path s nothing beside = (s ∷ [], leaf)
some_path s (tree a b c) beside = let k = some_path a b c in (s ∷ k.0, down k.1)

-- ---- joins

-- two merged nodes, given the paths of their joined children
meet-path : (s : ℕ) (k k' : Forest) → ((q : List ℕ) → Path (join k k') q → Path k q ⊎ Path k' q) → (p : List ℕ) →
    Path (tree s (meet k k' (join k k')) nothing) p → Path (tree s k nothing) p ⊎ Path (tree s k' nothing) p
unfolding meet
meet-path s nothing k' h p l = inl l
meet-path s (tree a b c) nothing h p l = inr l
meet-path s (tree a b c) (tree a' b' c') h p l =
    ⊎_elim (λ x. absurd (join-none (tree a b c) (tree a' b' c') (rw x.0 tt)))
    (λ (q, x, e). rw e (⊎_elim (λ y. inl (down y)) (λ y. inr (down y)) (h q x))) (root_cases l)

-- a path of a join is one of the two forests'
pub join-path : (f g : Forest) (p : List ℕ) → Path (join f g) p → Path f p ⊎ Path g p
join-path = join-ind (λ f g r. (p : List ℕ) → Path r p → Path f p ⊎ Path g p)
    (λ g p h. inr h)
    (λ s k b p h. inl h)
    (λ s s' k b k' b' l i p h. ⊎_elim (λ x. inl (path_beside b x)) (λ x. ⊎_elim (λ y. inl (next y)) (λ y. inr y) (i p x)) (path_cases h))
    (λ s k b k' b' i j p h. ⊎_elim
    (λ x. ⊎_elim (λ y. inl (path_beside b y)) (λ y. inr (path_beside b' y)) (meet-path s k k' i p x))
    (λ x. ⊎_elim (λ y. inl (next y)) (λ y. inr (next y)) (j p x)) (path_cases h))
    (λ s s' k b k' b' l i p h. ⊎_elim (λ x. inr (path_beside b' x)) (λ x. ⊎_elim (λ y. inl y) (λ y. inr (next y)) (i p x)) (path_cases h))

-- ---- growth

grown_next : {t : Table} {x d s : ℕ} {kids beside : Forest} {q : List ℕ} → Grown t x d beside q → Grown t x d (tree s kids beside) q
grown_next r = record { path = r.path; state = r.state; below = r.below; new = r.new; is = next r.is; left = r.left; goes = r.goes; grown = r.grown }

grown_down : {t : Table} {x d s : ℕ} {kids beside : Forest} {q : List ℕ} → Grown t x d kids q → Grown t x (suc d) (tree s kids beside) q
grown_down {s} r = record {
  path = s ∷ r.path;
  state = r.state;
  below = r.below;
  new = r.new;
  is = down r.is;
  left = r.left;
  goes = r.goes;
  grown = r.grown;
}

-- the path of a new root above a tree
above-path : (o : Option ℕ) (s : ℕ) (kids : Forest) (q : List ℕ) → Path (above o s kids) q → (u : ℕ) × (p : List ℕ) × (o ≡ some u) ×
    Path (tree s kids nothing) p × (q ≡ u ∷ p)
above-path none s kids q h = absurd (no_path h)
above-path (some u) s kids q h = ⊎_elim (λ (e, e'). absurd (tree-nothing e)) (λ (p, k, e). (u, p, refl, k, e)) (root_cases h)

-- a path of what is grown onto a forest is that forest's, or grown
pub grow-path : (t : Table) (x d : ℕ) (f to : Forest) (q : List ℕ) → Path (grow t x d f to) q → Path to q ⊎ Grown t x d f q
unfolding grow
grow-path t x d nothing to q h = inl h
grow-path t x zero (tree s kids beside) to q h =
    ⊎_elim (λ k. ⊎_elim (λ l. inl l) (λ l. inr (here l)) (join-path _ _ q k)) (λ k. inr (grown_next k)) (grow-path t x zero beside _ q h)
  where
    here : Path (above (goto t s x) s kids) q → Grown t x zero (tree s kids beside) q
    here k =
        let (u, p, e, k', e') = above-path (goto t s x) s kids q k in
        let r = root_first k' in
        record {
          path = p;
          state = s;
          below = r.0;
          new = u;
          is = path_beside beside k';
          left = r.1;
          goes = e;
          grown = e' ∙ ap (λ (l : List ℕ). u ∷ l) r.1;
        }
grow-path t x (suc d) (tree s kids beside) to q h =
    ⊎_elim (λ k. ⊎_elim (λ l. inl l) (λ l. inr (grown_down l)) (grow-path t x d kids to q k)) (λ k. inr (grown_next k))
    (grow-path t x (suc d) beside _ q h)

-- ---- long reductions

or_cases : (a b : Bool) → a || b ≡ true → (a ≡ true) ⊎ (b ≡ true)
or_cases true b e = inl refl
or_cases false b e = inr e

-- where a forest is short, some path has at most so many nodes
pub short-path : (d : ℕ) (f : Forest) → short d f ≡ true → (p : List ℕ) × Path f p × (length p ≤ d)
unfolding short
short-path d nothing e = absurd (false≢true e)
short-path zero (tree s kids beside) e = absurd (false≢true e)
short-path (suc d) (tree s nothing beside) e = (s ∷ [], leaf, omega arith)
short-path (suc d) (tree s (tree a b c) beside) e =
    ⊎_elim
    (λ l. let (p, h, n) = short-path d (tree a b c) l in (s ∷ p, down h, suc-le-suc n))
    (λ r. let (p, h, n) = short-path (suc d) beside r in (p, next h, n))
    (or_cases (short d (tree a b c)) (short (suc d) beside) e)

-- a path of `long t x` is the target of a go line on x
pub long_path : {t : Table} → Facts t → (x : ℕ) (p : List ℕ) → Path (long t x) p → (s : ℕ) × (u : ℕ) × (goto t s x ≡ some u) × (p ≡ u ∷ [])
long_path {t} P x = long_of_law P x (λ F. (p : List ℕ) → Path F p → (s : ℕ) × (u : ℕ) × (goto t s x ≡ some u) × (p ≡ u ∷ []))
    (λ p h. absurd (no_path h))
    (λ f g a b p h. ⊎_elim (λ l. a p l) (λ l. b p l) (join-path f g p h))
    (λ c u e p h. (c, u, e, ⊎_elim (λ k. k.1) (λ k. absurd (no_path k.1)) (root_cases h)))

-- ---- a tree taken out

pub taken_cases : {F k o : Forest} {s : ℕ} {p : List ℕ} → Taken F s k o → Path F p → Path (tree s k nothing) p ⊎ Path o p
taken_cases here h = path_cases h
taken_cases (later x) h = ⊎_elim (λ a. inr (path_beside _ a)) (λ b. ⊎_elim (λ y. inl y) (λ y. inr (next y)) (taken_cases x b)) (path_cases h)

pub taken_back : {F k o : Forest} {s : ℕ} {p : List ℕ} → Taken F s k o → Path (tree s k nothing) p ⊎ Path o p → Path F p
taken_back here (inl a) = path_beside _ a
taken_back here (inr b) = next b
taken_back (later x) (inl a) = next (taken_back x (inl a))
taken_back (later x) (inr b) = ⊎_elim (λ y. path_beside _ y) (λ y. next (taken_back x (inr y))) (path_cases b)

-- ---- a step

-- a path after a step is of the trees beside, or grown, or of a long reduction
pub reduced-path : (t : Table) (ph : Phase) (c : Chosen) (q : List ℕ) → Path (reduced t ph c).forest q →
    Path c.others q ⊎ (Grown t (left_of t c) (length_of t c) (root_of c) q ⊎
    ((short (length_of t c) (root_of c) ≡ true) × Path (long t (left_of t c)) q))
unfolding reduced
reduced-path t ph c q = go (short (length_of t c) (root_of c))
  where
    G : Forest
    G = grow t (left_of t c) (length_of t c) (root_of c) c.others

    Result : Bool → Type 0
    Result b = Path c.others q ⊎ (Grown t (left_of t c) (length_of t c) (root_of c) q ⊎ ((b ≡ true) × Path (long t (left_of t c)) q))

    grown : (b : Bool) → Path G q → Result b
    grown b k = ⊎_elim (λ l. inl l) (λ l. inr (inl l)) (grow-path t (left_of t c) (length_of t c) (root_of c) c.others q k)

    fresh : (m : Bool) → Path (cond m nothing (long t (left_of t c))) q → Result true
    fresh true k = absurd (no_path k)
    fresh false k = inr (inr (refl, k))

    go : (b : Bool) → Path (cond b (join G (cond (has ph.marked (left_of t c)) nothing (long t (left_of t c)))) G) q → Result b
    go true k = ⊎_elim (grown true) (fresh (has ph.marked (left_of t c))) (join-path _ _ q k)
    go false k = grown false k
