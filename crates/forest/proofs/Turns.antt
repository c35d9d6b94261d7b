-- The turns of a join as the code takes them: what holds after one, and how the rest's outcome is the whole's. Assumes nothing.
use mathlib.Core.Path.{◌≡◌, ◌∙◌, refl, sym, subst, subst⁻¹}
use mathlib.Core.List.{List}
use Prim.Native.Nat.{ℕ, ◌+◌, ◌*◌, ◌<◌, ◌≤◌}
use native.Mathlib.Omega.{arith}
use lib.ListN.{length}
use lib.Seq.{set-get_or}
use Rattle.forest.specs.Words.{stride, at, poke, Inside}
use Rattle.forest.specs.Trees.{Tree, nil, node, erase, size, Rep, live}
use Rattle.forest.specs.Pools.{Pool, add, dropped}
use Rattle.forest.specs.Joins.{Two, SomeTwo, Joined, Joins, SomePair, Meets, Passed}
use Rattle.forest.proofs.Frame.{live-rep}
use Rattle.forest.proofs.Keep.{means_less, means_more, at_own, less_two, less_end, more_two, more_end, same_pair, same_two, same_end}
use Rattle.forest.proofs.Below.{lone, both_two}

-- What a turn of the loop leaves: a join to make of what is left is the join to make, and fewer nodes are left.
pub record Turn (w : List ℕ) (d j x y : ℕ) (v : List ℕ) (d' j' x' y' : ℕ) : Type 0 where
  pub some : SomeTwo v d' j' x' y'
  pub falls : live v x' + live v y' < live w x + live w y
  pub back : (u : List ℕ) → Joins v d' j' x' y' u → Joins w d j x y u

-- the live nodes of both lists are theirs
pub count_two : {w : List ℕ} {d j x y : ℕ} {f g : Tree} {P : Pool} → Two w d j x y f g P → live w x + live w y ≡ size f + size g
count_two {w} {f = f} {g = g} T =
    let a = live-rep f w _ T.first (omega (arith, T.fits)) in
    let b = live-rep g w _ T.second (omega (arith, T.fits)) in
    omega arith

-- both trees opened
own_two : {w : List ℕ} {d j x y p s q s' : ℕ} {k n k' n' : Tree} {P : Pool} → Two w d j x y (node p s k n) (node q s' k' n') P →
    Two w d j p q (node p s k n) (node q s' k' n') P
own_two {w} {x = x} {y = y} {p = p} {s = s} {q = q} {s' = s'} {k = k} {n = n} {k' = k'} {n' = n'} T =
    record {
      first = at_own w x p s k n T.first;
      second = at_own w y q s' k' n' T.second;
      pool = T.pool;
      once = T.once;
      apart = T.apart;
      inside = T.inside;
      link = T.link;
      fits = T.fits;
      words = T.words;
    }

module _ (w : List ℕ) (d j x y : ℕ) (x≢ : x ≡ 0 → ⊥) (y≢ : y ≡ 0 → ⊥) (S : SomeTwo w d j x y) where
  -- what is shown of two nodes holds of x and y
  both : (Q : ℕ → ℕ → Tree → Tree → Pool → Type 0) →
      ((p s : ℕ) (k n : Tree) (q s' : ℕ) (k' n' : Tree) (P : Pool) → at w p 0 ≡ s → at w q 0 ≡ s' → Two w d j p q (node p s k n) (node q s' k' n') P → Q p q (node p s k n) (node q s' k' n') P) →
      (f g : Tree) (P : Pool) → Two w d j x y f g P → Q x y f g P
  both Q h nil g P T = absurd (x≢ T.first)
  both Q h (node p s k n) nil P T = absurd (y≢ T.second)
  both Q h (node p s k n) (node q s' k' n') P T =
      subst (λ (a : ℕ). Q a y (node p s k n) (node q s' k' n') P) (sym T.first.is)
      (subst (λ (b : ℕ). Q p b (node p s k n) (node q s' k' n') P) (sym T.second.is)
      (h p s k n q s' k' n' P T.first.state T.second.state (own_two T)))

  -- a turn where the first list's tree comes first
  pub turn_less : at w x 0 < at w y 0 → Turn w d j x y (poke w d j x) x 2 (at w x 2) y
  turn_less l =
      record {
        some =
            both (λ a b f g P. SomeTwo (poke w d j a) a 2 (at w a 2) b)
            (λ p s k n q s' k' n' P es et T. record { f = n; g = node q s' k' n'; P = P; two = less_two w d j p s k n (node q s' k' n') P q T })
            S.f S.g S.P S.two;
        falls =
            both (λ a b f g P. live (poke w d j a) (at w a 2) + live (poke w d j a) b < live w a + live w b)
            (λ p s k n q s' k' n' P es et T. omega (arith, count_two T, count_two (less_two w d j p s k n (node q s' k' n') P q T)))
            S.f S.g S.P S.two;
        back =
            λ u J f g P T.
            both (λ a b f g P. at w a 0 < at w b 0 → Joins (poke w d j a) a 2 (at w a 2) b u → Joined w u d j f g P)
            (λ p s k n q s' k' n' P es et T h J.
            less_end w d j p s k n (node q s' k' n') P q T (means_less s s' (erase k) (erase n) (erase k') (erase n') (omega arith)) u
            (J n (node q s' k' n') P (less_two w d j p s k n (node q s' k' n') P q T)))
            f g P T l J;
      }

  -- a turn where the second list's does
  pub turn_more : at w y 0 < at w x 0 → Turn w d j x y (poke w d j y) y 2 x (at w y 2)
  turn_more l =
      record {
        some =
            both (λ a b f g P. SomeTwo (poke w d j b) b 2 a (at w b 2))
            (λ p s k n q s' k' n' P es et T. record { f = node p s k n; g = n'; P = P; two = more_two w d j q s' k' n' (node p s k n) P p T })
            S.f S.g S.P S.two;
        falls =
            both (λ a b f g P. live (poke w d j b) a + live (poke w d j b) (at w b 2) < live w a + live w b)
            (λ p s k n q s' k' n' P es et T. omega (arith, count_two T, count_two (more_two w d j q s' k' n' (node p s k n) P p T)))
            S.f S.g S.P S.two;
        back =
            λ u J f g P T.
            both (λ a b f g P. at w b 0 < at w a 0 → Joins (poke w d j b) b 2 a (at w b 2) u → Joined w u d j f g P)
            (λ p s k n q s' k' n' P es et T h J.
            more_end w d j q s' k' n' (node p s k n) P p T (means_more s s' (erase k) (erase n) (erase k') (erase n') (omega arith)) u
            (J (node p s k n) n' P (more_two w d j q s' k' n' (node p s k n) P p T)))
            f g P T l J;
      }

  -- two trees of equal state stand ready to become one
  pub turn_pair : SomePair (poke w d j x) x y
  turn_pair =
      both (λ a b f g P. SomePair (poke w d j a) a b)
      (λ p s k n q s' k' n' P es et T. record { k = k; k' = k'; P = P; pair = same_pair w d j p s k n q s' k' n' P T })
      S.f S.g S.P S.two

  -- a turn where they do
  pub turn_same : at w x 0 ≡ at w y 0 → (v : List ℕ) → Meets (poke w d j x) x y v → Turn w d j x y v x 2 (at w x 2) (at w y 2)
  turn_same l v M =
      record {
        some =
            both (λ a b f g P. Meets (poke w d j a) a b v → SomeTwo v a 2 (at w a 2) (at w b 2))
            (λ p s k n q s' k' n' P es et T M.
            let m = M k k' P (same_pair w d j p s k n q s' k' n' P T) in
            record { f = n; g = n'; P = m.left; two = same_two w d j p s k n q s' k' n' P T v m })
            S.f S.g S.P S.two M;
        falls =
            both (λ a b f g P. Meets (poke w d j a) a b v → live v (at w a 2) + live v (at w b 2) < live w a + live w b)
            (λ p s k n q s' k' n' P es et T M.
            let m = M k k' P (same_pair w d j p s k n q s' k' n' P T) in
            omega (arith, count_two T, count_two (same_two w d j p s k n q s' k' n' P T v m)))
            S.f S.g S.P S.two M;
        back =
            λ u J f g P T.
            both (λ a b f g P. at w a 0 ≡ at w b 0 → Meets (poke w d j a) a b v → Joins v a 2 (at w a 2) (at w b 2) u → Joined w u d j f g P)
            (λ p s k n q s' k' n' P es et T h M J.
            let m = M k k' P (same_pair w d j p s k n q s' k' n' P T) in
            same_end w d j p s k n q s' k' n' P T v m (sym es ∙ h ∙ et) u
            (J n n' m.left (same_two w d j p s k n q s' k' n' P T v m)))
            f g P T l M J;
      }

  -- the children are fewer
  pub kids_fall : 2 * (live (poke w d j x) (at (poke w d j x) x 1) + live (poke w d j x) (at (poke w d j x) y 1)) + 1 < 2 * (live w x + live w y)
  kids_fall =
      both (λ a b f g P. 2 * (live (poke w d j a) (at (poke w d j a) a 1) + live (poke w d j a) (at (poke w d j a) b 1)) + 1 < 2 * (live w a + live w b))
      (λ p s k n q s' k' n' P es et T.
      let z = same_pair w d j p s k n q s' k' n' P T in
      let a = live-rep k (poke w d j p) _ z.first (omega (arith, z.fits)) in
      let b = live-rep k' (poke w d j p) _ z.second (omega (arith, z.fits)) in
      omega (arith, count_two T))
      S.f S.g S.P S.two

-- a word that stays what it is changes nothing
poke-at : (w : List ℕ) (d j : ℕ) → poke w d j (at w d j) ≡ w
unfolding poke at
poke-at w d j = set-get_or w (stride * d + j) 0

-- at first no root is passed by
pub passing : (w : List ℕ) (p a : ℕ) → SomeTwo w 0 1 (at w 0 1) p → a ≡ at w 0 1 → Passed w p 0 1 a
passing w p a S e = subst⁻¹ (λ (z : ℕ). Passed w p 0 1 z) e (record { some = S; leads = refl; back = λ u J. J })

-- one root more is passed by: its state is lower
pub passes : (w : List ℕ) (p d j a : ℕ) → (a ≡ 0 → ⊥) → (p ≡ 0 → ⊥) → Passed w p d j a → at w a 0 < at w p 0 →
    Passed w p a 2 (at w a 2) × (live w (at w a 2) < live w a)
passes w p d j a a≢ p≢ G l =
    let e : poke w d j a ≡ w = subst (λ (z : ℕ). poke w d j z ≡ w) G.leads (poke-at w d j) in
    let T = subst (λ (v : List ℕ). Turn w d j a p v a 2 (at w a 2) p) e (turn_less w d j a p a≢ p≢ G.some l) in (
      record { some = T.some; leads = refl; back = λ u J. G.back u (T.back u J) },
      omega (arith, T.falls),
    )

-- what a list begins with is in the room
pub inside_at : (w : List ℕ) (d : ℕ) (t : Tree) (x : ℕ) → Inside w d → Rep w x t → Inside w x
inside_at w d nil x h r = omega arith
inside_at w d (node p s k n) x h r = omega (arith, r.is, r.inside)

-- the node at hand of the first list is in the room
pub first_in : {w : List ℕ} {d j x y : ℕ} → SomeTwo w d j x y → Inside w x
first_in {w} {d} {x = x} S = inside_at w d S.f x S.two.inside S.two.first

-- and that of the second
pub second_in : {w : List ℕ} {d j x y : ℕ} → SomeTwo w d j x y → Inside w y
second_in {w} {d} {y = y} S = inside_at w d S.g y S.two.inside S.two.second

-- the loop's invariant: what is left from here is what was asked
pub record Going (w₀ : List ℕ) (to word x y : ℕ) (w : List ℕ) (d j a b : ℕ) : Type 0 where
  pub some : SomeTwo w d j a b
  pub fewer : live w a + live w b ≤ live w₀ x + live w₀ y
  pub len : length w ≡ length w₀
  pub back : (u : List ℕ) → Joins w d j a b u → Joins w₀ to word x y u

-- at first the whole join is left
pub starts : {w : List ℕ} {d j x y : ℕ} → SomeTwo w d j x y → Going w d j x y w d j x y
starts S = record { some = S; fewer = omega arith; len = refl; back = λ u J. J }

module _
    {w₀ : List ℕ}
    {to word x y : ℕ}
    {w : List ℕ}
    {d j a b : ℕ}
    {v : List ℕ}
    {d' j' a' b' : ℕ}
    (G : Going w₀ to word x y w d j a b)
    (T : Turn w d j a b v d' j' a' b')
    {v'' : List ℕ}
    {a'' b'' : ℕ}
    (ev : v'' ≡ v)
    (ea : a'' ≡ a')
    (eb : b'' ≡ b')
  where
    moved : Turn w d j a b v'' d' j' a'' b''
    moved = subst⁻¹ (λ (l : List ℕ). Turn w d j a b l d' j' a'' b'') ev (subst⁻¹ (λ (z : ℕ). Turn w d j a b v d' j' z b'') ea (subst⁻¹ (λ (z : ℕ). Turn w d j a b v d' j' a' z) eb T))

    pub less : live v'' a'' + live v'' b'' < live w a + live w b
    less = moved.falls

    pub again : length v'' ≡ length w → Going w₀ to word x y v'' d' j' a'' b''
    again e =
        record {
          some = moved.some;
          fewer = omega (arith, moved.falls, G.fewer);
          len = e ∙ G.len;
          back = λ u J. G.back u (moved.back u J);
        }

-- the children of two nodes, once the second is dropped
module _ {w : List ℕ} {a b : ℕ} (S : SomePair w a b) where
  -- a's first child is in the room
  pub kids_in_a : Inside w (at w a 1)
  kids_in_a = inside_at w a S.k (at w a 1) S.pair.inside S.pair.first

  -- b's is
  pub kids_in_b : Inside w (at w b 1)
  kids_in_b = inside_at w a S.k' (at w b 1) S.pair.inside S.pair.second

  -- what the join of the children asks
  pub kids_two : SomeTwo (dropped w b) a 1 (at w a 1) (at w b 1)
  kids_two = record { f = S.k; g = S.k'; P = add (lone w b) S.P; two = both_two w a b S.k S.k' S.P S.pair }

  -- freeing b changes no count below
  pub kids_count : live (dropped w b) (at w a 1) + live (dropped w b) (at w b 1) ≡ live w (at w a 1) + live w (at w b 1)
  kids_count =
      let p = live-rep S.k w (at w a 1) S.pair.first (omega (arith, S.pair.fits)) in
      let q = live-rep S.k' w (at w b 1) S.pair.second (omega (arith, S.pair.fits)) in
      omega (arith, count_two (both_two w a b S.k S.k' S.P S.pair))
