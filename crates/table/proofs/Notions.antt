-- Laws of sets of nonterminals: what a nonterminal adds, what a rule makes of a set, and that a set which no rule makes larger is exact.
use Prim.Native.Nat.{ℕ, ◌+◌, ◌-◌, ◌≤◌, ◌<◌, ◌^◌}
use native.Mathlib.Omega.{arith}
use native.Mathlib.Nat.{le_refl}
use native.Mathlib.Decide.{ℕ_discrete}
use mathlib.Core.Path.{◌≡◌, refl, sym, ◌∙◌, subst}
use mathlib.Core.Bool.{Bool, true, false, false≢true}
use mathlib.Core.Logic.{◌⊎◌, inl, inr, ⊎_elim}
use mathlib.Core.List.{List, [], ◌∷◌}
use mathlib.Core.List.{Memᴰ as Mem}
use lib.Bits.{or_lt}
use lib.Dec.{eqb, leb, ltb}
use lib.ListN.{length, get_or}
use borrow.Author.Count.{below_more, below_none}
use lib.Pow.{pow-lt, pow_pos}
use borrow.Author.Tests.{eqb-true, eq-eqb, leb-false, lt-leb, ltb-true, lt-ltb, le-ltb, ne_eqb}
use Rattle.theory.specs.Grammar.{Rule, Grammar, start, Nonterm, Reachable, UnitTo, one, then, WellFormed}
use Rattle.theory.proofs.Grammar.Closure.{productive_step, productive_closed, reachable_start, reachable_step, reachable_closed, unit_closed}
use Rattle.theory.specs.Table.{rule_at, accept_rule}
use Rattle.table.specs.declared.Notion.{Notion}
use Rattle.table.specs.Members.{mem_at, all_mem}
use Rattle.table.specs.Sets.{In, SetOf}
use Rattle.table.specs.Notions.{nonterm, Means, member, made, with, Made, Begun, Part, Closed, Grows, GrownBy, first_of, Asked}
use Rattle.table.proofs.Bits.{or_left, or_right, or_cases, or_grows, none_in, single_in, single_only}

-- ---- members

-- a symbol in the set is a nonterminal, and its bit is set
pub member-in : (terms set x : ℕ) → member terms set x ≡ true → (terms < x) × In set (x - terms - 1)
unfolding member
member-in terms set x h = go (leb x terms) refl
  where
    go : (b : Bool) → leb x terms ≡ b → (terms < x) × In set (x - terms - 1)
    go true p = absurd (false≢true (rw (p, member) at h))
    go false p = (leb-false x terms p, eqb-true _ _ (rw (p, member) at h))

-- a nonterminal whose bit is set is in the set
pub in_member : (terms set x : ℕ) → terms < x → In set (x - terms - 1) → member terms set x ≡ true
unfolding member
in_member terms set x l i = rw (lt-leb x terms l, member) (eq-eqb _ _ i)

-- a kind or a symbol in the set
pub made-cases : (terms set x : ℕ) → made terms set x ≡ true → (x < terms) ⊎ (member terms set x ≡ true)
unfolding made
made-cases terms set x h = go (ltb x terms) refl
  where
    go : (b : Bool) → ltb x terms ≡ b → (x < terms) ⊎ (member terms set x ≡ true)
    go true p = inl (ltb-true x terms p)
    go false p = inr (rw (p, made) at h)

-- and the other way
pub made_of : (terms set x : ℕ) → (x < terms) ⊎ (member terms set x ≡ true) → made terms set x ≡ true
unfolding made
made_of terms set x (inl l) = rw (lt-ltb x terms l, made) refl
made_of terms set x (inr m) = let l = (member-in terms set x m).0 in rw (le-ltb x terms (omega arith), made) m

-- ---- one more

-- it is in the set then
pub with_in : (terms set x : ℕ) → terms < x → member terms (with terms set x) x ≡ true
unfolding with
with_in terms set x l = in_member terms _ x l (or_right set (2 ^ (x - terms - 1)) (x - terms - 1) (single_in (x - terms - 1)))

-- what was in the set still is
pub with-keeps : (terms set x k : ℕ) → In set k → In (with terms set x) k
unfolding with
with-keeps terms set x k i = or_left set (2 ^ (x - terms - 1)) k i

-- and so is every symbol
pub with-member : (terms set x y : ℕ) → member terms set y ≡ true → member terms (with terms set x) y ≡ true
with-member terms set x y m = let (l, i) = member-in terms set y m in in_member terms _ y l (with-keeps terms set x _ i)

-- and nothing else is
pub with-only : (terms set x k : ℕ) → terms < x → In (with terms set x) k → In set k ⊎ (terms + 1 + k ≡ x)
unfolding with
with-only terms set x k l i = ⊎_elim (λ h. inl h) (λ h. inr (let e = single_only (x - terms - 1) k h in omega arith)) (or_cases set (2 ^ (x - terms - 1)) k i)

-- it is no smaller
pub with-grows : (terms set x : ℕ) → set ≤ with terms set x
unfolding with
with-grows terms set x = or_grows set (2 ^ (x - terms - 1))

-- and within the nonterminals
pub with-below : (terms n set x : ℕ) → set < 2 ^ n → terms < x → x ≤ terms + n → with terms set x < 2 ^ n
unfolding with
with-below terms n set x h l u = or_lt n set (2 ^ (x - terms - 1)) h (pow-lt (omega arith))

-- the same by equal parts
pub with-is : {s terms terms' x x' : ℕ} (set : ℕ) → s ≡ with terms set x → terms ≡ terms' → x ≡ x' → with terms' set x' ≡ s
with-is set e t u = sym (e ∙ (λ i. with (t i) set (u i)))

-- ---- growing

module _ (g : Grammar) where
  -- of a symbol in a part the notion holds
  pub part_means : {n : Notion} {set : ℕ} → Part g n set → (x : ℕ) → member g.terms set x ≡ true → Means g n x
  part_means {n} {set} p x m =
      let (l, i) = member-in g.terms set x m in
      let e : nonterm g (x - g.terms - 1) ≡ x = omega arith in
      subst (Means g n) e (p.right (x - g.terms - 1) i)

  -- one more nonterminal keeps what a set begins with
  begun_keeps : (n : Notion) (set x : ℕ) → Begun n set → Begun n (with g.terms set x)
  begun_keeps Notion.Productive set x b = tt
  begun_keeps Notion.Reachable set x b = with-keeps g.terms set x 0 b
  begun_keeps (Notion.ComesTo c) set x b = tt

  -- a part and a nonterminal of which the notion holds
  pub part_with : {n : Notion} {set : ℕ} → Part g n set → (x : ℕ) → Nonterm g x → Means g n x → Part g n (with g.terms set x)
  part_with {n} {set} p x (l, u) m = record {
    below = with-below g.terms g.nonterms set x p.below l u;
    right = λ k i. ⊎_elim (λ h. p.right k h) (λ e. subst (Means g n) (sym e) m) (with-only g.terms set x k l i);
    begun = begun_keeps n set x p.begun;
  }

  -- where adding it made no difference it is in the set
  pub with-same : (set x : ℕ) → Nonterm g x → with g.terms set x ≡ set → member g.terms set x ≡ true
  with-same set x (l, u) e = subst (λ s. member g.terms s x ≡ true) e (with_in g.terms set x l)

  -- ---- what one rule makes of a set

  -- a rule that calls for nothing
  pub stays : {n : Notion} {set : ℕ} {r : Rule} → Part g n set → Closed g n set r → Grows g n r set set
  stays {set = set} p c = record { part = p; grows = le_refl set; closed = λ e. c }

  -- a rule of productive symbols
  pub productive_grows : {set : ℕ} {r : Rule} → WellFormed g → Mem r g.rules → Part g Notion.Productive set → Made g set r.right →
      Grows g Notion.Productive r set (with g.terms set r.left)
  productive_grows {set} {r} W m p h = record {
    part = part_with p r.left (W.lefts r m) (productive_step r m (λ x k. ⊎_elim (λ l. inl l) (λ i. inr (part_means p x i)) (made-cases g.terms set x (h x k))));
    grows = with-grows g.terms set r.left;
    closed = λ e c. with-same set r.left (W.lefts r m) e;
  }

  -- a rule of one symbol, which is the one asked of or comes to it
  pub comes_grows : {set c : ℕ} {r : Rule} → WellFormed g → Mem r g.rules → Part g (Notion.ComesTo c) set → (b : ℕ) → r.right ≡ b ∷ [] →
      (b ≡ c) ⊎ (member g.terms set b ≡ true) → Grows g (Notion.ComesTo c) r set (with g.terms set r.left)
  comes_grows {set} {c} {r} W m p b e o = record {
    part = part_with p r.left (W.lefts r m) (⊎_elim (λ q. subst (UnitTo g r.left) q (one r m e)) (λ i. then (one r m e) (part_means p b i)) o);
    grows = with-grows g.terms set r.left;
    closed = λ q a f h. with-same set r.left (W.lefts r m) q;
  }

-- a list of one
pub one_list : (l : List ℕ) → length l ≡ 1 → l ≡ get_or l 0 0 ∷ []
one_list [] e = absurd (omega arith)
one_list (x ∷ []) e = refl
one_list (x ∷ y ∷ l) e = absurd (omega arith)

-- what the first j symbols on a rule's right side make of a set of reachable nonterminals
pub record Reaching (g : Grammar) (right : List ℕ) (set out j : ℕ) : Type 0 where
  pub part : Part g Notion.Reachable out
  pub grows : set ≤ out
  pub has : (k : ℕ) → k < j → g.terms < get_or right k 0 → member g.terms out (get_or right k 0) ≡ true

module _ (g : Grammar) (r : Rule) (set : ℕ) where
  -- one more nonterminal
  pub reaching_more : {out j : ℕ} → WellFormed g → Mem r g.rules → Reachable g r.left → Reaching g r.right set out j → j < length r.right →
      g.terms < get_or r.right j 0 → Reaching g r.right set (with g.terms out (get_or r.right j 0)) (j + 1)
  reaching_more {out} {j} W m a h l t =
      let x = get_or r.right j 0 in
      let k = mem_at r.right j 0 l in
      record {
        part = part_with g h.part x (t, W.in_range r x m k) (reachable_step r x m a k);
        grows = let u = h.grows in let v = with-grows g.terms out x in omega arith;
        has = below_more _ _ (λ i b c. with-member g.terms out x _ (h.has i b c)) (λ c. with_in g.terms out x t);
      }

  -- one more kind
  pub reaching_kind : {out j : ℕ} → Reaching g r.right set out j → get_or r.right j 0 ≤ g.terms → Reaching g r.right set out (j + 1)
  reaching_kind h l = record { part = h.part; grows = h.grows; has = below_more _ _ h.has (λ c. absurd (omega arith)) }

  -- the whole right side
  pub reaching_all : {out : ℕ} → Reaching g r.right set out (length r.right) → Grows g Notion.Reachable r set out
  reaching_all {out} h = record {
    part = h.part;
    grows = h.grows;
    closed = λ e a x m n. all_mem (λ y. g.terms < y → member g.terms set y ≡ true) r.right 0
        (λ k l c. subst (λ s. member g.terms s (get_or r.right k 0) ≡ true) e (h.has k l c)) x m n.0;
  }

-- ---- what a set begins with

-- nothing is a part
none_part : (g : Grammar) (n : Notion) → Begun n 0 → Part g n 0
none_part g n b = record { below = pow_pos g.nonterms; right = λ k i. absurd (none_in k i); begun = b }

-- a notion's set begins with a part
pub first_part : (g : Grammar) → WellFormed g → (n : Notion) → Part g n (first_of n)
first_part g W Notion.Productive = none_part g Notion.Productive tt
first_part g W Notion.Reachable = record {
  below = pow-lt {i = 0} W.has_start;
  right = λ k i. let e : start g ≡ nonterm g k = let z = single_only 0 k i in omega arith in subst (Reachable g) e (reachable_start g);
  begun = single_in 0;
}
first_part g W (Notion.ComesTo c) = none_part g (Notion.ComesTo c) tt

-- ---- what all rules make of a set

module _ (g : Grammar) (n : Notion) (set : ℕ) where
  -- no rule
  pub grown_none : Part g n set → GrownBy g n 0 set set
  grown_none p = record { part = p; grows = le_refl set; closed = λ e. below_none _ }

  -- one more rule: where nothing was added in all, nothing was added before
  pub grown_more : {k out new : ℕ} → GrownBy g n k set out → Grows g n (rule_at g k) out new → GrownBy g n (k + 1) set new
  grown_more {k} {out} {new} h s = record {
    part = s.part;
    grows = let a = h.grows in let b = s.grows in omega arith;
    closed = λ e.
        let a = h.grows in
        let b = s.grows in
        let same : out ≡ set = omega arith in
        below_more _ _ (h.closed same) (subst (λ x. Closed g n x (rule_at g k)) same (s.closed (omega arith)));
  }

-- ---- a set that no rule makes larger is exact

-- a unit chain's end, if it is the one asked of, is come to from the set
comes : ℕ → ℕ → ℕ → ℕ → ℕ → Bool
comes terms set c a b = elim (eqb b c) [ true ↦ member terms set a | false ↦ true ]

-- at the one asked of it says that the set has the symbol
comes_at : (terms set c a : ℕ) → comes terms set c a c ≡ true → member terms set a ≡ true
unfolding comes
comes_at terms set c a h = rw (eq-eqb c c refl, comes) at h

-- and the other way
comes_of : (terms set c a b : ℕ) → (b ≡ c → member terms set a ≡ true) → comes terms set c a b ≡ true
unfolding comes
comes_of terms set c a b h = go (ℕ_discrete b c)
  where
    go : Dec (b ≡ c) → comes terms set c a b ≡ true
    go (yes e) = rw (eq-eqb b c e, comes) (h e)
    go (no n) = rw (ne_eqb b c n, comes) refl

module _ {g : Grammar} (W : WellFormed g) (set : ℕ) where
  -- every nonterminal of which the notion holds is in a closed set
  shown : (n : Notion) → Asked g n → Begun n set → ((r : Rule) → Mem r g.rules → Closed g n set r) → (x : ℕ) → Nonterm g x → Means g n x →
      member g.terms set x ≡ true
  shown Notion.Productive a b c x n m =
      productive_closed (member g.terms set) (λ r k h. c r k (λ y i. made_of g.terms set y (h y i))) x n m
  shown Notion.Reachable a b c x n m =
      reachable_closed W (member g.terms set)
      (in_member g.terms set (start g) (omega arith) (let e : start g - g.terms - 1 ≡ 0 = omega arith in rw e b))
      (λ r k h y i l. c r k h y i l) x n m
  shown (Notion.ComesTo d) a b c x n m =
      comes_at g.terms set d x
      (unit_closed (comes g.terms set d) (λ r y k e l. comes_of g.terms set d r.left y (λ q. c r k y e (inl q)))
      (λ r y z k e h. comes_of g.terms set d r.left z (λ q. c r k y e (inr (comes_at g.terms set d y (subst (λ w. comes g.terms set d y w ≡ true) q h)))))
      x d a m)

  -- the set of a notion
  pub exact : (n : Notion) → Asked g n → Part g n set → ((q : ℕ) → q < length g.rules → Closed g n set (rule_at g q)) →
      SetOf (λ k. Means g n (nonterm g k)) g.nonterms set
  exact n a p c = record {
    below = p.below;
    holds = p.right;
    shows = λ k l m.
        let i = (member-in g.terms set (nonterm g k) (shown n a p.begun (all_mem (Closed g n set) g.rules (accept_rule g) c) (nonterm g k) (omega arith, omega arith) m)).1 in
        let e : nonterm g k - g.terms - 1 ≡ k = omega arith in
        subst (In set) e i;
  }
