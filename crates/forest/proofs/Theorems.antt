-- What the contracts of the public functions settle: a room's nodes, and that what is told of a forest is one thing.
use mathlib.Core.Path.{◌≡◌, ◌∙◌, refl, sym, ap}
use mathlib.Core.Bool.{Bool}
use mathlib.Core.List.{List, [], ◌++◌, append_assoc, append-nil}
use Prim.Native.Nat.{ℕ, ◌+◌, ◌≤◌, ◌<◌}
use native.Mathlib.Omega.{arith}
use Rattle.theory.specs.Table.{Table}
use Rattle.theory.specs.Forest.{Forest, nothing, tree, Phase, shift}
use Rattle.theory.proofs.Forest.Agree.{reduces_agree}
use Rattle.theory.specs.Forest.Joins.{is_none}
use Rattle.forest.specs.Trees.{one, occ}
use Rattle.forest.specs.Pools.{pooled}
use Rattle.forest.specs.Held.{Held}
use Rattle.forest.specs.Starts.{Started, forest_of}
use Rattle.forest.specs.Tokens.{Taken}
use Rattle.forest.specs.Prints.{printed, JoinsInto}
use Rattle.forest.proofs.Runs.{run_in, run-above}
use Rattle.forest.proofs.Reading.{held_of}

-- ---- the nodes of a room

module _ {w : List ℕ} {C : ℕ} {F : Forest} (H : Held w C F) where
  -- each of the nodes 1 to C is in the forest, freed or never used, and that once
  pub each_once : (q : ℕ) → 1 ≤ q → q ≤ C → occ q H.tree + pooled (one q) H.P ≡ 1
  each_once q h l = H.whole (one q) ∙ run_in q 1 C h (omega arith)

  -- no other is
  pub none_above : (q : ℕ) → C < q → occ q H.tree + pooled (one q) H.P ≡ 0
  none_above q h = H.whole (one q) ∙ run-above q 1 C (omega arith)

-- ---- one outcome

-- the first token: what is told and the forest are one thing
pub started_agree : {w v w' v' : List ℕ} {C C' : ℕ} {t : Table} {a : ℕ} {empty empty' : Bool} {steps steps' : ℕ} →
    Started w v C t a empty steps → Started w' v' C' t a empty' steps' → (empty ≡ empty') × (steps ≡ steps') × (forest_of v ≡ forest_of v')
started_agree S S' = (
  S.told ∙ sym S'.told,
  S.none_made ∙ sym S'.none_made,
  held_of S.becomes.held ∙ sym (held_of S'.becomes.held),
)

-- a later token: what is told, the steps and the forest are one thing
pub taken_agree : {w v w' v' : List ℕ} {C C' : ℕ} {t : Table} {a : ℕ} {F : Forest} {empty empty' : Bool} {steps steps' : ℕ} →
    Taken w v C t a F empty steps → Taken w' v' C' t a F empty' steps' → (empty ≡ empty') × (steps ≡ steps') × (forest_of v ≡ forest_of v')
taken_agree {t = t} {a = a} S S' =
    let (n, q) = reduces_agree S.reduces S'.reduces in
    let f : shift t a S.end.forest ≡ shift t a S'.end.forest = ap (λ (p : Phase). shift t a p.forest) q in (
      S.told ∙ ap is_none f ∙ sym S'.told,
      n,
      held_of S.becomes.held ∙ f ∙ sym (held_of S'.becomes.held),
    )

-- two forests of paths: any two outcomes that the contract allows are equal, every place too
pub joined_agree : {first second out o o' : List ℕ} {r r' : Bool} → JoinsInto first second out r o → JoinsInto first second out r' o' → (r ≡ r') × (o ≡ o')
joined_agree (JoinsInto.joined f) (JoinsInto.joined f') = (refl, refl)
joined_agree (JoinsInto.joined f) (JoinsInto.refused n) = absurd (n f)
joined_agree (JoinsInto.refused n) (JoinsInto.joined f) = absurd (n f)
joined_agree (JoinsInto.refused n) (JoinsInto.refused n') = (refl, refl)

-- a print, whatever follows it, is of one forest
print_apart : (F G : Forest) (xs ys : List ℕ) → printed F ++ xs ≡ printed G ++ ys → (F ≡ G) × (xs ≡ ys)
unfolding printed
print_apart nothing nothing xs ys e = (refl, cc)
print_apart nothing (tree s k b) xs ys e = let z : 0 ≡ s + 1 = cc in absurd (omega arith)
print_apart (tree s k b) nothing xs ys e = let z : s + 1 ≡ 0 = cc in absurd (omega arith)
print_apart (tree s k b) (tree s' k' b') xs ys e =
    let z : s + 1 ≡ s' + 1 = cc in
    let q : s ≡ s' = omega arith in
    let l : printed k ++ printed b ++ xs ≡ printed k' ++ printed b' ++ ys = cc in
    let f : printed k ++ (printed b ++ xs) ≡ printed k' ++ (printed b' ++ ys)
    = sym (append_assoc (printed k) (printed b) xs) ∙ l ∙ append_assoc (printed k') (printed b') ys in
    let (m, g) = print_apart k k' (printed b ++ xs) (printed b' ++ ys) f in
    let (n, h) = print_apart b b' xs ys g in
    ((λ i. tree (q i) (m i) (n i)), h)

-- so the print tells forests apart
pub print_tells : (F G : Forest) → printed F ≡ printed G → F ≡ G
print_tells F G e = (print_apart F G [] [] (append-nil (printed F) ∙ e ∙ sym (append-nil (printed G)))).0
