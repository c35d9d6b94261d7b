-- The order of merging does not matter: merging is commutative and associative, for any forests. Document 01 says that trees with equal root
-- states merge at once and leaves the order open; whichever is taken, the forest is the same.
use Rattle.std.specs.Prelude.{ℕ, zero, suc, ◌+◌, ◌<◌, ◌≡◌, refl, not, ◌⊎◌, T}
use Rattle.std.proofs.Common.{arith, sym, ap, ap₂, ◌∙◌, subst, inl, inr, lt-ltb, le-ltb, ne_eqb, eq-eqb}
use Rattle.std.proofs.Math.Decide.{dec_lt}
use Rattle.theory.specs.Forest.{Forest, nothing, tree, size, join, weave, meet, From, root}
use Rattle.theory.specs.Forest.Joins.{is_none}
use Rattle.theory.proofs.Forest.Joins.{join-ind}
use Rattle.theory.proofs.Forest.Sizes.{from_join}

-- ---- one step of a join, by how the two first roots stand

-- nothing on the right
join-nothing : (f : Forest) → join f nothing ≡ f
unfolding join weave
join-nothing nothing = refl
join-nothing (tree s k b) = refl

-- the first root of the left is the lower
join-low : {s u : ℕ} (k b k' b' : Forest) → s < u → join (tree s k b) (tree u k' b') ≡ tree s k (join b (tree u k' b'))
unfolding join weave
join-low {s} {u} k b k' b' h = rw (lt-ltb s u h) refl

-- so also where the right is not split up
join-under : {s : ℕ} (k b g : Forest) → From (suc s) g → join (tree s k b) g ≡ tree s k (join b g)
join-under {s} k b nothing h = join-nothing (tree s k b) ∙ ap (λ (f : Forest). tree s k f) (sym (join-nothing b))
join-under k b (tree u k' b') (root l) = join-low k b k' b' l

-- they are the same
join-same : {s : ℕ} (k b k' b' : Forest) → join (tree s k b) (tree s k' b') ≡ tree s (meet k k' (join k k')) (join b b')
unfolding join weave
join-same {s} k b k' b' = rw (le-ltb s s (omega arith), eq-eqb s s refl) refl

-- the first root of the right is the lower
join-high : {s u : ℕ} (k b k' b' : Forest) → u < s → join (tree s k b) (tree u k' b') ≡ tree u k' (join (tree s k b) b')
unfolding join weave
join-high {s} {u} k b k' b' h = rw (le-ltb s u (omega arith), ne_eqb s u (λ e. omega arith)) refl

-- two numbers compared
order : (a b : ℕ) → (a < b) ⊎ ((a ≡ b) ⊎ (b < a))
order a b = go (dec_lt a b) (dec_lt b a)
  where
    go : Dec (a < b) → Dec (b < a) → (a < b) ⊎ ((a ≡ b) ⊎ (b < a))
    go (yes l) d = inl l
    go (no l) (yes h) = inr (inr h)
    go (no l) (no h) = inr (inl (omega arith))

-- ---- children of merged nodes

-- either way round
meet-flip : (k k' both : Forest) → meet k k' both ≡ meet k' k both
unfolding meet
meet-flip nothing nothing both = refl
meet-flip nothing (tree s a b) both = refl
meet-flip (tree s a b) nothing both = refl
meet-flip (tree s a b) (tree u c d) both = refl

-- where the one has none there are none
meet-none : (k both : Forest) → meet k nothing both ≡ nothing
unfolding meet
meet-none k both = meet-flip k nothing both ∙ refl

-- of two nodes with children the children are joined
meet-both : (k k' both : Forest) → T (not (is_none k)) → T (not (is_none k')) → meet k k' both ≡ both
unfolding meet
meet-both nothing k' both x y = absurd x
meet-both (tree s a b) nothing both x y = absurd y
meet-both (tree s a b) (tree u c d) both x y = refl

-- a join with a tree in it is a tree
join-some : (f g : Forest) → T (not (is_none f)) → T (not (is_none (join f g)))
join-some = join-ind (λ f g r. T (not (is_none f)) → T (not (is_none r))) (λ g x. absurd x) (λ s k b x. x) (λ s s' k b k' b' h i x. tt)
    (λ s k b k' b' i j x. tt) (λ s s' k b k' b' h i x. tt)

-- what two merged nodes have below
abbrev below : Forest → Forest → Forest
below k k' = meet k k' (join k k')

-- where joining the children is associative, so is what merged nodes have below
below-assoc : (k₁ k₂ k₃ : Forest) → join (join k₁ k₂) k₃ ≡ join k₁ (join k₂ k₃) → below (below k₁ k₂) k₃ ≡ below k₁ (below k₂ k₃)
unfolding meet
below-assoc nothing k₂ k₃ e = refl
below-assoc (tree s a b) nothing k₃ e = refl
below-assoc (tree s a b) (tree u c d) nothing e = meet-none (join (tree s a b) (tree u c d)) _
below-assoc (tree s a b) (tree u c d) (tree v f g) e =
    meet-both (join (tree s a b) (tree u c d)) (tree v f g) _ (join-some (tree s a b) (tree u c d) tt) tt ∙ e ∙
    sym (meet-both (tree s a b) (join (tree u c d) (tree v f g)) _ tt (join-some (tree u c d) (tree v f g) tt))

-- ---- the laws

-- two trees with one root state are the same where their parts are the same
same_tree : (s : ℕ) {k k' b b' : Forest} → k ≡ k' → b ≡ b' → tree s k b ≡ tree s k' b'
same_tree s p q = ap₂ {C = Forest} (λ k b. tree s k b) p q

-- merging is commutative
pub join-comm : (f g : Forest) → join f g ≡ join g f
unfolding join
join-comm = join-ind (λ f g r. r ≡ join g f)
    (λ g. sym (join-nothing g))
    (λ s k b. refl)
    (λ s s' k b k' b' h i. same_tree s refl i ∙ sym (join-high k' b' k b h))
    (λ s k b k' b' i j. same_tree s (meet-flip k k' (join k k') ∙ ap (λ (x : Forest). meet k' k x) i) j ∙ sym (join-same k' b' k b))
    (λ s s' k b k' b' h i. same_tree s' refl i ∙ sym (join-low k' b' k b h))

-- the left of a join, rewritten
first : (h : Forest) {x y : Forest} → x ≡ y → join x h ≡ join y h
first h e = ap (λ (f : Forest). join f h) e

-- the right of a join, rewritten back
last : (f : Forest) {x y : Forest} → x ≡ y → join f y ≡ join f x
last f e = ap (λ (h : Forest). join f h) (sym e)

-- Three forests with first roots a, b and c: whichever is the lowest goes first on both sides, and the rest is a smaller join of three.
module _ (k₁ b₁ k₂ b₂ k₃ b₃ : Forest) where
  -- both ways of joining three
  abbrev Agree : ℕ → ℕ → ℕ → Type 0
  Agree a b c = join (join (tree a k₁ b₁) (tree b k₂ b₂)) (tree c k₃ b₃) ≡ join (tree a k₁ b₁) (join (tree b k₂ b₂) (tree c k₃ b₃))

  -- the first has the lowest root
  only_a : (a b c : ℕ) → a < b → a < c → (let g = tree b k₂ b₂ in let h = tree c k₃ b₃ in join (join b₁ g) h ≡ join b₁ (join g h)) → Agree a b c
  only_a a b c l m ih =
      let g = tree b k₂ b₂ in
      let h = tree c k₃ b₃ in
      first (tree c k₃ b₃) (join-low k₁ b₁ k₂ b₂ l) ∙ join-low k₁ (join b₁ g) k₃ b₃ m ∙ same_tree a refl ih ∙
      sym (join-under k₁ b₁ (join g h) (from_join (suc a) g h (root l) (root m)))

  -- the second has the lowest root
  only_b : (a b c : ℕ) → b < a → b < c → (let f = tree a k₁ b₁ in let h = tree c k₃ b₃ in join (join f b₂) h ≡ join f (join b₂ h)) → Agree a b c
  only_b a b c l m ih =
      first (tree c k₃ b₃) (join-high k₁ b₁ k₂ b₂ l) ∙ join-low k₂ (join (tree a k₁ b₁) b₂) k₃ b₃ m ∙ same_tree b refl ih ∙
      sym (join-high k₁ b₁ k₂ (join b₂ (tree c k₃ b₃)) l) ∙ last (tree a k₁ b₁) (join-low k₂ b₂ k₃ b₃ m)

  -- the third has the lowest root
  only_c : (a b c : ℕ) → c < a → c < b → (let f = tree a k₁ b₁ in let g = tree b k₂ b₂ in join (join f g) b₃ ≡ join f (join g b₃)) → Agree a b c
  only_c a b c l m ih =
      let f = tree a k₁ b₁ in
      let g = tree b k₂ b₂ in
      join-comm (join f g) (tree c k₃ b₃) ∙ join-under k₃ b₃ (join f g) (from_join (suc c) f g (root l) (root m)) ∙
      same_tree c refl (join-comm b₃ (join f g) ∙ ih) ∙ sym (join-high k₁ b₁ k₃ (join g b₃) l) ∙ last f (join-high k₂ b₂ k₃ b₃ m)

  -- the first two have the lowest root
  a_and_b : (a c : ℕ) → a < c → (let h = tree c k₃ b₃ in join (join b₁ b₂) h ≡ join b₁ (join b₂ h)) → Agree a a c
  a_and_b a c m ih =
      first (tree c k₃ b₃) (join-same k₁ b₁ k₂ b₂) ∙ join-low (below k₁ k₂) (join b₁ b₂) k₃ b₃ m ∙ same_tree a refl ih ∙
      sym (join-same k₁ b₁ k₂ (join b₂ (tree c k₃ b₃))) ∙ last (tree a k₁ b₁) (join-low k₂ b₂ k₃ b₃ m)

  -- the first and the third have the lowest root
  a_and_c : (a b : ℕ) → a < b → (let g = tree b k₂ b₂ in join (join b₁ g) b₃ ≡ join b₁ (join g b₃)) → Agree a b a
  a_and_c a b l ih =
      first (tree a k₃ b₃) (join-low k₁ b₁ k₂ b₂ l) ∙ join-same k₁ (join b₁ (tree b k₂ b₂)) k₃ b₃ ∙ same_tree a refl ih ∙
      sym (join-same k₁ b₁ k₃ (join (tree b k₂ b₂) b₃)) ∙ last (tree a k₁ b₁) (join-high k₂ b₂ k₃ b₃ l)

  -- the last two have the lowest root
  b_and_c : (a b : ℕ) → b < a → (let f = tree a k₁ b₁ in join (join f b₂) b₃ ≡ join f (join b₂ b₃)) → Agree a b b
  b_and_c a b l ih =
      first (tree b k₃ b₃) (join-high k₁ b₁ k₂ b₂ l) ∙ join-same k₂ (join (tree a k₁ b₁) b₂) k₃ b₃ ∙ same_tree b refl ih ∙
      sym (join-high k₁ b₁ (below k₂ k₃) (join b₂ b₃) l) ∙ last (tree a k₁ b₁) (join-same k₂ b₂ k₃ b₃)

  -- all three have the same root
  all_three : (a : ℕ) → join (join k₁ k₂) k₃ ≡ join k₁ (join k₂ k₃) → join (join b₁ b₂) b₃ ≡ join b₁ (join b₂ b₃) → Agree a a a
  all_three a ik ib =
      first (tree a k₃ b₃) (join-same k₁ b₁ k₂ b₂) ∙ join-same (below k₁ k₂) (join b₁ b₂) k₃ b₃ ∙ same_tree a (below-assoc k₁ k₂ k₃ ik) ib ∙
      sym (join-same k₁ b₁ (below k₂ k₃) (join b₂ b₃)) ∙ last (tree a k₁ b₁) (join-same k₂ b₂ k₃ b₃)

-- the law, by recursion on a number above the nodes of all three
assoc : (n : ℕ) (f g h : Forest) → size f + size g + size h < n → join (join f g) h ≡ join f (join g h)
unfolding size join
assoc zero f g h l = absurd (omega arith)
assoc (suc n) nothing g h l = refl
assoc (suc n) (tree a k₁ b₁) nothing h l = ap (λ (x : Forest). join x h) (join-nothing (tree a k₁ b₁))
assoc (suc n) (tree a k₁ b₁) (tree b k₂ b₂) nothing l =
    join-nothing (join (tree a k₁ b₁) (tree b k₂ b₂)) ∙ ap (λ (x : Forest). join (tree a k₁ b₁) x) (sym (join-nothing (tree b k₂ b₂)))
assoc (suc n) (tree a k₁ b₁) (tree b k₂ b₂) (tree c k₃ b₃) l = by_order (order a b) (order a c) (order b c) (λ f g h m. assoc n f g h m)
  where
    f : Forest
    f = tree a k₁ b₁

    g : Forest
    g = tree b k₂ b₂

    h : Forest
    h = tree c k₃ b₃

    by_order : (a < b) ⊎ ((a ≡ b) ⊎ (b < a)) → (a < c) ⊎ ((a ≡ c) ⊎ (c < a)) → (b < c) ⊎ ((b ≡ c) ⊎ (c < b)) →
        ((f g h : Forest) → size f + size g + size h < n → join (join f g) h ≡ join f (join g h)) → Agree k₁ b₁ k₂ b₂ k₃ b₃ a b c
    by_order (inl x) (inl y) z ih = only_a k₁ b₁ k₂ b₂ k₃ b₃ a b c x y (ih b₁ g h (omega arith))
    by_order (inl x) (inr (inl y)) z ih =
        subst (λ d. Agree k₁ b₁ k₂ b₂ k₃ b₃ a b d) y (a_and_c k₁ b₁ k₂ b₂ k₃ b₃ a b x (ih b₁ g b₃ (omega arith)))
    by_order (inl x) (inr (inr y)) z ih = only_c k₁ b₁ k₂ b₂ k₃ b₃ a b c y (omega arith) (ih f g b₃ (omega arith))
    by_order (inr (inl x)) (inl y) z ih =
        subst (λ d. Agree k₁ b₁ k₂ b₂ k₃ b₃ a d c) x (a_and_b k₁ b₁ k₂ b₂ k₃ b₃ a c y (ih b₁ b₂ h (omega arith)))
    by_order (inr (inl x)) (inr (inl y)) z ih =
        subst (λ d. Agree k₁ b₁ k₂ b₂ k₃ b₃ a d c) x (subst (λ d. Agree k₁ b₁ k₂ b₂ k₃ b₃ a a d) y
        (all_three k₁ b₁ k₂ b₂ k₃ b₃ a (ih k₁ k₂ k₃ (omega arith)) (ih b₁ b₂ b₃ (omega arith))))
    by_order (inr (inl x)) (inr (inr y)) z ih = only_c k₁ b₁ k₂ b₂ k₃ b₃ a b c y (omega arith) (ih f g b₃ (omega arith))
    by_order (inr (inr x)) y (inl z) ih = only_b k₁ b₁ k₂ b₂ k₃ b₃ a b c x z (ih f b₂ h (omega arith))
    by_order (inr (inr x)) y (inr (inl z)) ih =
        subst (λ d. Agree k₁ b₁ k₂ b₂ k₃ b₃ a b d) z (b_and_c k₁ b₁ k₂ b₂ k₃ b₃ a b x (ih f b₂ b₃ (omega arith)))
    by_order (inr (inr x)) y (inr (inr z)) ih = only_c k₁ b₁ k₂ b₂ k₃ b₃ a b c (omega arith) z (ih f g b₃ (omega arith))

-- merging is associative
pub join-assoc : (f g h : Forest) → join (join f g) h ≡ join f (join g h)
join-assoc f g h = assoc (suc (size f + size g + size h)) f g h (omega arith)
