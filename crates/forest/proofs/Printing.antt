-- The print of trees, root by root. Assumes nothing.
use mathlib.Core.Path.{◌≡◌, ◌∙◌, refl, ap, subst⁻¹}
use mathlib.Core.List.{List, [], ◌∷◌, ◌++◌}
use Prim.Native.Nat.{ℕ, suc, ◌+◌, ◌*◌, ◌<◌, ◌≤◌}
use native.Mathlib.Omega.{arith}
use native.Mathlib.Numerals.{add-one}
use lib.ListN.{length, set, length-append, length-set}
use lib.Seq.{sets, length-sets}
use Rattle.theory.specs.Forest as Of
use Rattle.theory.specs.Forest.{Forest, nothing, tree}
use Rattle.forest.specs.Words.{max_words, at, Inside}
use Rattle.forest.specs.Trees.{Tree, nil, node, erase, Rep, live}
use Rattle.forest.specs.Prints.{printed, Lists, SomePrint, Prints}
use Rattle.forest.proofs.Frame.{live-rep}

-- stores of one list after the other are stores of both
sets_then : (xs ys out : List ℕ) (n : ℕ) → sets (sets out n xs) (n + length xs) ys ≡ sets out n (xs ++ ys)
sets_then [] ys out n = ap (λ (i : ℕ). sets out i ys) (omega arith)
sets_then (x ∷ xs) ys out n =
    ap (λ (i : ℕ). sets (sets (set out n x) (suc n) xs) i ys) (omega arith) ∙ sets_then xs ys (set out n x) (suc n)

-- a print has two numbers for each node, and the last 0
pub printed-length : (F : Forest) → length (printed F) ≡ 2 * Of.size F + 1
unfolding printed Of.size
printed-length nothing = refl
printed-length (tree s k b) = simp length-append (omega (arith, printed-length k, printed-length b))

module _ {w : List ℕ} {a p s : ℕ} {k n : Tree} (L : Lists w a (node p s k n)) where
  -- the root's children
  kids_of : Lists w (at w a 1) k
  kids_of = record {
    rep = subst⁻¹ (λ (z : ℕ). Rep w (at w z 1) k) L.rep.is L.rep.kids;
    some = L.some;
    fits = omega (arith, L.fits);
    words = L.words;
  }

  -- the trees beside it
  next_of : Lists w (at w a 2) n
  next_of = record {
    rep = subst⁻¹ (λ (z : ℕ). Rep w (at w z 2) n) L.rep.is L.rep.next;
    some = L.some;
    fits = omega (arith, L.fits);
    words = L.words;
  }

  -- its state
  state_of : at w a 0 ≡ s
  state_of = ap (λ (z : ℕ). at w z 0) L.rep.is ∙ L.rep.state

-- there is a place for the next number
pub print_place : {w : List ℕ} {a : ℕ} {out : List ℕ} {k : ℕ} → SomePrint w a out k → k < length out
print_place S = omega (arith, S.places, printed-length (erase S.f))

-- trees with a root, whose print has places from i on
record Root (w : List ℕ) (a : ℕ) (out : List ℕ) (i : ℕ) : Type 0 where
  p : ℕ
  s : ℕ
  t : Tree
  n : Tree
  holds : Lists w a (node p s t n)
  places : i + (1 + length (printed (erase t)) + length (printed (erase n))) ≤ length out

-- the print of a tree and those beside it has places for its own number and for both parts
print_places : (p s : ℕ) (k n : Tree) → length (printed (erase (node p s k n))) ≡ 1 + length (printed (erase k)) + length (printed (erase n))
unfolding printed
print_places p s k n = simp length-append (omega arith)

-- the last place
pub print_end : (w out : List ℕ) (k a : ℕ) → a ≡ 0 → Prints w a out k (set out k 0) (k + 1)
unfolding printed
print_end w out k a e nil L = (refl, omega arith)
print_end w out k a e (node p s t n) L = absurd (omega (arith, L.rep.is, L.rep.live))

module _ (w out : List ℕ) (a k : ℕ) (a≢ : a ≡ 0 → ⊥) where
  -- the root's number
  abbrev out₁ : List ℕ
  out₁ = set out k (at w a 0 + 1)

  -- the root, its children, then the trees beside it
  turn : (out₂ : List ℕ) (r₂ : ℕ) → Prints w (at w a 1) out₁ (k + 1) out₂ r₂ → (out₃ : List ℕ) (r : ℕ) → Prints w (at w a 2) out₂ r₂ out₃ r →
      Prints w a out k out₃ r
  unfolding printed
  turn out₂ r₂ K out₃ r N nil L = absurd (a≢ L.rep)
  turn out₂ r₂ K out₃ r N (node p s t n) L =
      let x = K t (kids_of L) in
      let y = N n (next_of L) in
      let f = printed (erase t) in
      let g = printed (erase n) in
      let e : r₂ ≡ suc k + length f = omega (arith, x.1) in
      let d : out₂ ≡ sets (set out k (s + 1)) (suc k) f
      = x.0 ∙ (λ i. sets (set out k (state_of L i + 1)) (add-one k i) f) in (
        y.0 ∙ (λ i. sets (d i) (e i) g) ∙ sets_then f g (set out k (s + 1)) (suc k),
        simp length-append (omega (arith, y.1)),
      )

  module _ (S : SomePrint w a out k) where
    -- the trees have a root
    root : Root w a out k
    root = of S.f S.holds S.places
      where
        of : (f : Tree) → Lists w a f → k + length (printed (erase f)) ≤ length out → Root w a out k
        of nil L h = absurd (a≢ L.rep)
        of (node p s t n) L h = record { p = p; s = s; t = t; n = n; holds = L; places = omega (arith, h, print_places p s t n) }

    -- the node at hand is in the room
    pub print_in : Inside w a × (length w ≤ max_words)
    print_in = (omega (arith, root.holds.rep.is, root.holds.rep.inside), root.holds.words)

    -- what the call for the children asks
    pub kids_print : SomePrint w (at w a 1) out₁ (k + 1)
    kids_print = record {
      f = root.t;
      holds = kids_of root.holds;
      places = omega (arith, root.places, length-set out k (at w a 0 + 1));
    }

    -- the children have fewer live nodes
    pub kids_fall : live w (at w a 1) < live w a
    kids_fall =
        let x = live-rep (node root.p root.s root.t root.n) w a root.holds.rep root.holds.fits in
        let y = live-rep root.t w (at w a 1) (kids_of root.holds).rep (kids_of root.holds).fits in
        omega arith

    -- so have the trees beside
    pub next_fall : live w (at w a 2) < live w a
    next_fall =
        let x = live-rep (node root.p root.s root.t root.n) w a root.holds.rep root.holds.fits in
        let y = live-rep root.n w (at w a 2) (next_of root.holds).rep (next_of root.holds).fits in
        omega arith

    -- what the next turn asks
    next_print : (out₂ : List ℕ) (r₂ : ℕ) → Prints w (at w a 1) out₁ (k + 1) out₂ r₂ → SomePrint w (at w a 2) out₂ r₂
    next_print out₂ r₂ K =
        let x = K root.t (kids_of root.holds) in
        let l = ap (λ (o : List ℕ). length o) x.0 ∙ length-sets out₁ (k + 1) (printed (erase root.t)) ∙ length-set out k (at w a 0 + 1) in
        record { f = root.n; holds = next_of root.holds; places = omega (arith, root.places, x.1, l) }

-- the loop's invariant: the print of what is left is the rest of the print
pub record Told (w : List ℕ) (x : ℕ) (out₀ : List ℕ) (n : ℕ) (out : List ℕ) (a k : ℕ) : Type 0 where
  pub some : SomePrint w a out k
  pub fewer : live w a ≤ live w x
  pub back : (out' : List ℕ) (r : ℕ) → Prints w a out k out' r → Prints w x out₀ n out' r
  pub len : length out ≡ length out₀

-- at first all is left
pub told_first : (w : List ℕ) (x : ℕ) (out : List ℕ) (n : ℕ) → SomePrint w x out n → Told w x out n out x n
told_first w x out n S = record { some = S; fewer = omega arith; back = λ out' r h. h; len = refl }

-- a turn
pub told_next : {w : List ℕ} {x : ℕ} {out₀ : List ℕ} {n : ℕ} {out : List ℕ} {a k : ℕ} → Told w x out₀ n out a k → (a ≡ 0 → ⊥) →
    (out₂ : List ℕ) (r₂ : ℕ) → Prints w (at w a 1) (set out k (at w a 0 + 1)) (k + 1) out₂ r₂ → length out₂ ≡ length out →
    Told w x out₀ n out₂ (at w a 2) r₂
told_next {w} {x} {out₀} {n} {out} {a} {k} G h out₂ r₂ K l = record {
  some = next_print w out a k h G.some out₂ r₂ K;
  fewer = omega (arith, next_fall w out a k h G.some, G.fewer);
  back = λ out' r N. G.back out' r (turn w out a k h out₂ r₂ K out' r N);
  len = l ∙ G.len;
}
