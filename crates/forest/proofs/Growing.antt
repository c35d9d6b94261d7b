-- The turns of a growth. Assumes nothing.
use mathlib.Core.Path.{◌≡◌, ◌∙◌, refl, sym, ap, subst, subst⁻¹}
use mathlib.Core.Bool.{Bool, true, false, ◌||◌}
use mathlib.Core.List.{List}
use Prim.Native.Nat.{ℕ, zero, suc, ◌+◌, ◌-◌, ◌<◌, ◌≤◌}
use native.Mathlib.Omega.{arith}
use lib.ListN.{length}
use Rattle.theory.specs.Table.{Table}
use Rattle.theory.specs.Forest as Of
use Rattle.theory.specs.Forest.{Forest, nothing, tree, grow, short, over, Rising, bare, rises}
use Rattle.theory.specs.Forest.Sizes.{inner}
use Rattle.theory.proofs.Forest.Sizes.{size-split, parts}
use Rattle.theory.proofs.Forest.Growth.{grow-inner, grow-rising}
use Rattle.forest.specs.Words.{at, poke, Inside, max_words, poke-len, at_same, at_other}
use Rattle.forest.specs.Trees.{Tree, nil, node, erase, weigh, one, each, occ, size, Rep, live}
use Rattle.forest.specs.Pools.{Pool, pooled, add, dropped}
use Rattle.forest.specs.Grows.{Source, SomeSource, Grown, Grows, GrowsTold}
use Rattle.forest.specs.Rows.{Row}
use Rattle.forest.proofs.Frame.{one-self, not_none, still, pool_still, kept_rep, live-rep}
use Rattle.forest.proofs.Below.{lone, drop_len, drop_kept, drop_rep, drop_pool}
use Rattle.forest.proofs.Keep.{at_own}
use Rattle.forest.proofs.Turns.{inside_at}
use Rattle.forest.proofs.Taking.{zero_in}
use Rattle.forest.proofs.Shortness.{or_false, or_assoc, short-split, short-zero, short-leaf, short-below}

-- a tree has as many nodes as its forest
pub erase-size : (t : Tree) → Of.size (erase t) ≡ size t
unfolding Of.size
erase-size nil = refl
erase-size (node p s k n) = omega (arith, erase-size k, erase-size n)

-- the first tree, then the rest
grow-split : (t : Table) (y d s : ℕ) (k b to : Forest) → grow t y d b (grow t y d (tree s k nothing) to) ≡ grow t y d (tree s k b) to
unfolding grow
grow-split t y zero s k b to = refl
grow-split t y (suc d) s k b to = refl

-- to grow below a lone root is to grow from its children
grow-below : (t : Table) (y d s : ℕ) (k to : Forest) → grow t y d k to ≡ grow t y (suc d) (tree s k nothing) to
unfolding grow
grow-below t y d s k to = refl

-- a lone tree has one node more than its children
tree-size : (s : ℕ) (k : Forest) → Of.size (tree s k nothing) ≡ 1 + Of.size k
unfolding Of.size
tree-size s k = omega arith

module _ (w : List ℕ) (m p s : ℕ) (k n to : Tree) (P : Pool) (T : Source w m p (node p s k n) to P) where
  -- the first root is not node 0
  p≢0 : 0 ≡ p → ⊥
  p≢0 e = omega (arith, T.source.live)

  -- its place stands nowhere else
  off : occ p k + occ p n + occ p to + pooled (one p) P ≡ 0
  off = omega (arith, T.once p, one-self p)

  -- an untouched node is not it
  not_p : (q : ℕ) → occ q (node p s k nil) + occ q to + pooled (one q) P ≡ 0 → q ≡ p → ⊥
  not_p q h e = let o : one q p ≡ 1 = subst (λ (z : ℕ). one q z ≡ 1) e (one-self q) in omega arith

  -- its tree alone rises
  lone_rises : Rising m (tree s (erase k) nothing)
  lone_rises = let r = parts T.rising in rises r.below over r.kids bare

  -- ---- the first tree alone
  pub first_source : Source (poke w p 2 0) m p (node p s k nil) to P
  first_source =
      let v = poke w p 2 0 in
      let e = poke-len w p 2 0 in
      record {
        source =
            record {
              is = refl;
              live = T.source.live;
              inside = omega (arith, e, T.source.inside);
              state = at_other w p 2 0 p 0 (omega arith) (omega arith) (λ i j. omega arith) ∙ T.source.state;
              kids =
                  subst⁻¹ (λ (z : ℕ). Rep v z k) (at_other w p 2 0 p 1 (omega arith) (omega arith) (λ i j. omega arith))
                  (still w p 2 0 k (at w p 1) (omega arith) (omega (arith, off)) T.source.kids);
              next = at_same w p 2 0 (omega arith) T.source.inside;
            };
        roots =
            subst⁻¹ (λ (z : ℕ). Rep v z to) (at_other w p 2 0 0 1 (omega arith) (omega arith) (λ i j. omega arith))
            (still w p 2 0 to (at w 0 1) (omega arith) (omega (arith, off)) T.roots);
        pool = pool_still w p 2 0 P (omega arith) (omega arith) (omega (arith, off)) T.pool;
        once = λ q. omega (arith, T.once q);
        rising = lone_rises;
        rising_to = T.rising_to;
        fits = omega (arith, T.fits, e);
        enough = T.enough;
        words = omega (arith, T.words, e);
      }

  -- the first tree, cut off and sprouted, is grown
  pub first_grown : (v : List ℕ) (t : Table) (y : ℕ) → Grown (poke w p 2 0) v t y 0 (node p s k nil) to P → Grown w v t y 0 (node p s k nil) to P
  first_grown v t y G =
      record {
        tree = G.tree;
        left = G.left;
        rep = G.rep;
        means = G.means;
        pool = G.pool;
        weight = G.weight;
        kept = λ q i l h o z. G.kept q i l h o z ∙ at_other w p 2 0 q i (omega arith) l (λ a b. not_p q h a);
        len = G.len ∙ poke-len w p 2 0;
      }

  -- ---- its children, once it is dropped
  pub kids_source : Source (dropped w p) m (at w p 1) k to (add (lone w p) P)
  kids_source =
      let e = drop_len w p in
      record {
        source = drop_rep w p k (at w p 1) (omega (arith, off)) T.source.kids;
        roots =
            subst⁻¹ (λ (z : ℕ). Rep (dropped w p) z to) (drop_kept w p 0 1 (omega arith) p≢0 (λ i j. omega arith))
            (drop_rep w p to (at w 0 1) (omega (arith, off)) T.roots);
        pool = drop_pool w p P T.source.live T.source.inside T.pool (λ q. omega (arith, T.once q));
        once = λ q. omega (arith, T.once q);
        rising = (parts T.rising).kids;
        rising_to = T.rising_to;
        fits = omega (arith, T.fits, e);
        enough = omega (arith, T.enough);
        words = omega (arith, T.words, e);
      }

  -- the first root, freed, and its children grown, is that tree grown a node deeper
  pub kids_grown : (v : List ℕ) (t : Table) (y d : ℕ) → Grown (dropped w p) v t y d k to (add (lone w p) P) → Grown w v t y (suc d) (node p s k nil) to P
  kids_grown v t y d G =
      record {
        tree = G.tree;
        left = G.left;
        rep = G.rep;
        means = G.means ∙ grow-below t y d s (erase k) (erase to);
        pool = G.pool;
        weight = λ m. omega (arith, G.weight m);
        kept = λ q i l h o z. G.kept q i l (omega arith) o z ∙ drop_kept w p q i l (not_p q h) (λ a b. let c = z a in omega arith);
        len = G.len ∙ drop_len w p;
      }

  -- ---- then the rest
  module _ (row v : List ℕ) (t : Table) (y d : ℕ) (R : Row row m t y) (G : Grown w v t y d (node p s k nil) to P) where
    -- the trees beside it stand ready to be grown
    pub rest_source : Source v m (at w p 2) n G.tree G.left
    rest_source =
        let a = erase-size G.tree in
        let b = erase-size to in
        let c = erase-size k in
        let g = tree-size s (erase k) in
        let i : inner (erase G.tree) ≤ inner (erase to) + Of.size (tree s (erase k) nothing) = subst⁻¹ (λ (z : Forest). inner z ≤ inner (erase to) + Of.size (tree s (erase k) nothing)) G.means (grow-inner t y d (tree s (erase k) nothing) (erase to)) in
        record {
          source =
              kept_rep w v 0 1 (λ f. weigh f (node p s k nil) + weigh f to + pooled f P) G.len G.kept n (at w p 2)
              (λ q. omega (arith, T.once q)) (not_none w n (at w p 2) T.source.next) T.source.next;
          roots = G.rep;
          pool = G.pool;
          once = λ q. omega (arith, T.once q, G.weight (one q));
          rising = (parts T.rising).beside;
          rising_to = subst⁻¹ (λ (z : Forest). Rising m z) G.means (grow-rising t y m R.low d (tree s (erase k) nothing) (erase to) lone_rises T.rising_to);
          fits = omega (arith, T.fits, G.weight each, G.len);
          enough = omega (arith, T.enough, G.weight each, size-split (erase G.tree), size-split (erase to));
          words = omega (arith, T.words, G.len);
        }

    -- when they are grown too, all are
    pub rest_grown : (u : List ℕ) → Grown v u t y d n G.tree G.left → Grown w u t y d (node p s k n) to P
    rest_grown u H =
        record {
          tree = H.tree;
          left = H.left;
          rep = H.rep;
          means = H.means ∙ ap (λ (z : Forest). grow t y d (erase n) z) G.means ∙ grow-split t y d s (erase k) (erase n) (erase to);
          pool = H.pool;
          weight = λ m. omega (arith, H.weight m, G.weight m);
          kept = λ q i l h o z. H.kept q i l (omega (arith, G.weight (one q))) o z ∙ G.kept q i l (omega arith) o z;
          len = H.len ∙ G.len;
        }

-- no tree is left
pub end_grows : (w row : List ℕ) (d x : ℕ) → x ≡ 0 → Grows w row d x w
unfolding grow
end_grows w row d x e m t y nil to P R T =
    record {
      tree = to;
      left = P;
      rep = T.roots;
      means = refl;
      pool = T.pool;
      weight = λ m. omega arith;
      kept = λ q i l h o z. refl;
      len = refl;
    }
end_grows w row d x e m t y (node p s k n) to P R T = absurd (omega (arith, T.source.is, T.source.live))

-- and no path is short
pub end_told : (w row : List ℕ) (d x : ℕ) → x ≡ 0 → GrowsTold w row d x w false
unfolding short
end_told w row d x e m t y nil to P R T = (end_grows w row d x e m t y nil to P R T, refl)
end_told w row d x e m t y (node p s k n) to P R T = absurd (omega (arith, T.source.is, T.source.live))

-- ---- as the code takes them: the first tree's part is done, and h is whether a path in it is short
pub record Turned (w row : List ℕ) (d a : ℕ) (v : List ℕ) (a' : ℕ) (h : Bool) : Type 0 where
  pub some : SomeSource v row a'
  pub falls : live v a' < live w a
  pub back : (u : List ℕ) (r : Bool) → GrowsTold v row d a' u r → GrowsTold w row d a u (h || r)

-- the place of a root is its own
own_source : (w : List ℕ) (m x p s : ℕ) (k n to : Tree) (P : Pool) → Source w m x (node p s k n) to P → Source w m p (node p s k n) to P
own_source w m x p s k n to P T =
    record {
      source = at_own w x p s k n T.source;
      roots = T.roots;
      pool = T.pool;
      once = T.once;
      rising = T.rising;
      rising_to = T.rising_to;
      fits = T.fits;
      enough = T.enough;
      words = T.words;
    }

module _ (w row : List ℕ) (a : ℕ) (a≢ : a ≡ 0 → ⊥) (S : SomeSource w row a) where
  -- where there is a node, the trees have a first one
  opens : (Q : ℕ → ℕ → Tree → Tree → Pool → Type 0) →
      ((m p s : ℕ) (k n to : Tree) (P : Pool) → Source w m p (node p s k n) to P → Q m p (node p s k n) to P) →
      (m : ℕ) (f to : Tree) (P : Pool) → Source w m a f to P → Q m a f to P
  opens Q h m nil to P T = absurd (a≢ T.source)
  opens Q h m (node p s k n) to P T =
      subst⁻¹ (λ (z : ℕ). Q m z (node p s k n) to P) T.source.is (h m p s k n to P (own_source w m a p s k n to P T))

  -- the live nodes are those of the trees
  count_source : {v : List ℕ} {m x : ℕ} {f to : Tree} {P : Pool} → Source v m x f to P → live v x ≡ size f
  count_source {v} {x = x} {f = f} T = live-rep f v x T.source (omega (arith, T.fits))

  -- the first tree alone, and then the rest
  pub first_some : SomeSource (poke w a 2 0) row a
  first_some =
      opens (λ m z f to P. Row row m S.t S.y → SomeSource (poke w z 2 0) row z)
      (λ m p s k n to P T R. record { m = m; t = S.t; y = S.y; f = node p s k nil; to = to; P = P; goes = R; holds = first_source w m p s k n to P T })
      S.m S.f S.to S.P S.holds S.goes

  -- what the call for the children asks
  pub kids_some : SomeSource (dropped w a) row (at w a 1)
  kids_some =
      opens (λ m z f to P. Row row m S.t S.y → SomeSource (dropped w z) row (at w z 1))
      (λ m p s k n to P T R. record { m = m; t = S.t; y = S.y; f = k; to = to; P = add (lone w p) P; goes = R; holds = kids_source w m p s k n to P T })
      S.m S.f S.to S.P S.holds S.goes

  -- what both turns share: the first tree's part is done
  done : (v : List ℕ) (d : ℕ) (h : Bool) →
      ((m : ℕ) (t : Table) (y p s : ℕ) (k n to : Tree) (P : Pool) → a ≡ p → Row row m t y → Source w m p (node p s k n) to P →
      Grown w v t y d (node p s k nil) to P × (h ≡ short d (tree s (erase k) nothing))) →
      Turned w row d a v (at w a 2) h
  done v d h g =
      record {
        some =
            opens (λ m z f to P. a ≡ z → Row row m S.t S.y → SomeSource v row (at w z 2))
            (λ m p s k n to P T e R.
            let G = (g m S.t S.y p s k n to P e R T).0 in
            record { m = m; t = S.t; y = S.y; f = n; to = G.tree; P = G.left; goes = R; holds = rest_source w m p s k n to P T row v S.t S.y d R G })
            S.m S.f S.to S.P S.holds refl S.goes;
        falls =
            opens (λ m z f to P. a ≡ z → Row row m S.t S.y → live v (at w z 2) < live w z)
            (λ m p s k n to P T e R.
            let G = (g m S.t S.y p s k n to P e R T).0 in
            omega (arith, count_source T, count_source (rest_source w m p s k n to P T row v S.t S.y d R G)))
            S.m S.f S.to S.P S.holds refl S.goes;
        back =
            λ u r H m t y f to P R T.
            opens (λ m z f to P. a ≡ z → Row row m t y → GrowsTold v row d (at w z 2) u r → Grown w u t y d f to P × ((h || r) ≡ short d (erase f)))
            (λ m p s k n to P T e R H.
            let (G, x) = g m t y p s k n to P e R T in
            let (N, z) = H m t y n G.tree G.left R (rest_source w m p s k n to P T row v t y d R G) in (
              rest_grown w m p s k n to P T row v t y d R G u N,
              ap (λ (b : Bool). b || r) x ∙ ap (λ (b : Bool). short d (tree s (erase k) nothing) || b) z ∙ sym (short-split d s (erase k) (erase n)),
            ))
            m f to P T refl R H;
      }

  -- a turn at depth 0
  pub first_turn : (v : List ℕ) → Grows (poke w a 2 0) row 0 a v → Turned w row 0 a v (at w a 2) false
  first_turn v H =
      done v 0 false (λ m t y p s k n to P e R T. (
        first_grown w m p s k n to P T v t y
            (subst (λ (z : ℕ). Grows (poke w z 2 0) row 0 z v) e H m t y (node p s k nil) to P R (first_source w m p s k n to P T)),
        short-zero s (erase k),
      ))

  -- whether a path is short in a tree whose root goes: r is whether one is below it
  root_short : (d p s : ℕ) (k : Tree) (h r : Bool) → Rep w (at w p 1) k → (at w p 1 ≡ 0 → h ≡ true) → ((at w p 1 ≡ 0 → ⊥) → h ≡ r) →
      r ≡ short d (erase k) → h ≡ short (suc d) (tree s (erase k) nothing)
  root_short d p s nil h r K none some e = none K ∙ short-leaf d s
  root_short d p s (node q u l c) h r K none some e =
      some (λ z. omega (arith, K.is, K.live)) ∙ e ∙ short-below d s u (erase l) (erase c)

  -- a turn at a depth above 0
  pub kids_turn : (v : List ℕ) (d : ℕ) (h r : Bool) → (at w a 1 ≡ 0 → h ≡ true) → ((at w a 1 ≡ 0 → ⊥) → h ≡ r) →
      GrowsTold (dropped w a) row d (at w a 1) v r → Turned w row (suc d) a v (at w a 2) h
  kids_turn v d h r none some H =
      done v (suc d) h (λ m t y p s k n to P e R T.
      let (G, x) = subst (λ (z : ℕ). GrowsTold (dropped w z) row d (at w z 1) v r) e H m t y k to (add (lone w p) P) R (kids_source w m p s k n to P T) in (
        kids_grown w m p s k n to P T v t y d G,
        root_short d p s k h r T.source.kids (subst (λ (z : ℕ). at w z 1 ≡ 0 → h ≡ true) e none)
            (subst (λ (z : ℕ). (at w z 1 ≡ 0 → ⊥) → h ≡ r) e some) x,
      ))

  -- the same, with the depth as the code has it
  pub kids_turn_at : (v : List ℕ) (d : ℕ) (h r : Bool) → (d ≡ 0 → ⊥) → (at w a 1 ≡ 0 → h ≡ true) → ((at w a 1 ≡ 0 → ⊥) → h ≡ r) →
      GrowsTold (dropped w a) row (d - 1) (at w a 1) v r → Turned w row d a v (at w a 2) h
  kids_turn_at v zero h r z none some H = absurd (z refl)
  kids_turn_at v (suc d) h r z none some H =
      kids_turn v d h r none some (subst (λ (i : ℕ). GrowsTold (dropped w a) row i (at w a 1) v r) (omega arith) H)

  -- the node at hand is in the room
  pub source_in : Inside w a
  source_in = inside_at w 0 S.f a (zero_in S.holds.pool) S.holds.source

  -- and its state in the row
  pub state_in : at w a 0 < length row
  state_in =
      opens (λ m z f to P. m ≤ length row → at w z 0 < length row)
      (λ m p s k n to P T l. omega (arith, T.source.state, (parts T.rising).below))
      S.m S.f S.to S.P S.holds S.goes.long

-- the loop's invariant; `long` is whether a path was short so far
pub record Sown (w₀ row : List ℕ) (d x : ℕ) (long : Bool) (w : List ℕ) (a : ℕ) : Type 0 where
  pub some : SomeSource w row a
  pub len : length w ≡ length w₀
  pub back : (u : List ℕ) (r : Bool) → GrowsTold w row d a u r → GrowsTold w₀ row d x u (long || r)

-- at first all is left to be grown
pub sown : {w row : List ℕ} {d x : ℕ} → SomeSource w row x → Sown w row d x false w x
sown S = record { some = S; len = refl; back = λ u r H. H }

-- a turn leaves what the turn says
pub on : {w₀ row w v : List ℕ} {d x a a' a'' : ℕ} {long h long' : Bool} → Sown w₀ row d x long w a → Turned w row d a v a' h → a'' ≡ a' → length v ≡ length w →
    long' ≡ (long || h) → Sown w₀ row d x long' v a''
on {w₀} {row} {v = v} {d = d} {x = x} {long = long} {h = h} G T e l o =
    record {
      some = subst⁻¹ (λ (z : ℕ). SomeSource v row z) e T.some;
      len = l ∙ G.len;
      back =
          λ u r H.
          subst (λ (b : Bool). GrowsTold w₀ row d x u b) (or_assoc long h r ∙ ap (λ (b : Bool). b || r) (sym o))
          (G.back u (h || r) (T.back u r (subst (λ (z : ℕ). GrowsTold v row d z u r) e H)));
    }

-- at the end the answer is whether a path was short
pub reaped : {w₀ row w : List ℕ} {d x a : ℕ} {long : Bool} → Sown w₀ row d x long w a → a ≡ 0 → GrowsTold w₀ row d x w long
reaped {w₀} {row} {w} {d} {x} {a} {long} G e = subst (λ (b : Bool). GrowsTold w₀ row d x w b) (or_false long) (G.back w false (end_told w row d a e))

-- without the answer
pub untold : {w row : List ℕ} {d x : ℕ} {v : List ℕ} {r : Bool} → GrowsTold w row d x v r → Grows w row d x v
untold G m t y f to P R T = (G m t y f to P R T).0

-- ---- a turn of the loop, by what the code does with the first tree
module _ {w₀ row w : List ℕ} {d x a : ℕ} {long : Bool} (G : Sown w₀ row d x long w a) (a≢ : a ≡ 0 → ⊥) where
  -- the root at hand is in the room
  pub root_in : Inside w a × (length w ≤ max_words)
  root_in = (source_in w row a a≢ G.some, G.some.holds.words)

  -- cut off from those beside it, it can sprout
  pub cut_off : {u : List ℕ} → u ≡ poke w a 2 0 → SomeSource u row a × (0 < a) × (at u a 2 ≡ 0)
  cut_off {u} e = (
    subst⁻¹ (λ (l : List ℕ). SomeSource l row a) e (first_some w row a a≢ G.some),
    omega arith,
    subst⁻¹ (λ (l : List ℕ). at l a 2 ≡ 0) e (at_same w a 2 0 (omega arith) root_in.0),
  )

  -- then its part is done
  pub sprouted : {u v : List ℕ} → u ≡ poke w a 2 0 → d ≡ 0 → Grows u row 0 a v → Turned w row d a v (at w a 2) false
  sprouted {u} {v} e z H = subst⁻¹ (λ (k : ℕ). Turned w row k a v (at w a 2) false) z
      (first_turn w row a a≢ G.some v (subst (λ (l : List ℕ). Grows l row 0 a v) e H))

  module _ {u : List ℕ} {c : ℕ} (dropped-is : u ≡ dropped w a) (kids-are : c ≡ at w a 1) (deep : d ≡ 0 → ⊥) where
    -- where it goes, what lies below it can be grown
    pub kids_grow : SomeSource u row c
    kids_grow = subst⁻¹ (λ (l : List ℕ). SomeSource l row c) dropped-is
        (subst⁻¹ (λ (z : ℕ). SomeSource (dropped w a) row z) kids-are (kids_some w row a a≢ G.some))

    -- then its part is done, and is short if a path below it is
    pub kids_done : (c ≡ 0 → ⊥) → {v : List ℕ} {r : Bool} → GrowsTold u row (d - 1) c v r → Turned w row d a v (at w a 2) r
    kids_done n {v} {r} H =
        kids_turn_at w row a a≢ G.some v d r r deep (λ z. absurd (n (kids-are ∙ z))) (λ z. refl)
        (subst (λ (l : List ℕ). GrowsTold l row (d - 1) (at w a 1) v r) dropped-is
        (subst (λ (z : ℕ). GrowsTold u row (d - 1) z v r) kids-are H))

    -- nothing lies below it: the path is short
    pub no_kids : c ≡ 0 → Turned w row d a u (at w a 2) true
    no_kids e =
        let z = sym kids-are ∙ e in
        kids_turn_at w row a a≢ G.some u d true false deep (λ i. refl) (λ i. absurd (i z))
        (subst⁻¹ (λ (l : List ℕ). GrowsTold (dropped w a) row (d - 1) (at w a 1) l false) dropped-is
        (end_told (dropped w a) row (d - 1) (at w a 1) z))

-- a turn leaves fewer live nodes to grow
pub turned_falls : {w row v : List ℕ} {d a n : ℕ} {h : Bool} → Turned w row d a v (at w a 2) h → n ≡ at w a 2 → live v n < live w a
turned_falls {w} {v = v} {a = a} T e = subst⁻¹ (λ (z : ℕ). live v z < live w a) e T.falls
