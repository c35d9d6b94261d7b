-- Laws of first sets: what one rule makes of the rows, that rows which no rule makes larger are exact, and a bound on all rows together.
use Prim.Native.Nat.{ℕ, zero, suc, ◌+◌, ◌-◌, ◌*◌, ◌≤◌, ◌<◌, ◌^◌}
use native.Mathlib.Omega.{arith}
use native.Mathlib.Nat.{le_refl, suc-mul}
use native.Mathlib.Decide.{dec_lt, dec_le, ℕ_discrete}
use mathlib.Core.Path.{◌≡◌, refl, sym, ap, ◌∙◌, subst}
use mathlib.Core.Bool.{Bool, true, false, cond, false≢true}
use mathlib.Core.Logic.{⊎_elim}
use mathlib.Core.List.{List, [], ◌∷◌, head-eq_of_cons-eq}
use mathlib.Core.List.Memᴰ.{head as Mem·head}
use mathlib.Core.List.{Memᴰ as Mem}
use lib.Bits.{bit_or, or_lt}
use lib.Dec.{eqb}
use lib.ListN.{length, get_or, set, length-set, replicate, length-replicate}
use lib.Pow.{pow-lt, pow_pos}
use lib.Seq.{get_or-set_same, get_or-set_other}
use borrow.Author.Count.{below_more, below_none}
use borrow.Author.Tests.{eqb-true, eq-eqb, le-leb, lt-leb}
use Rattle.theory.specs.Grammar.{Rule, Grammar, Begins, WellFormed, Reduced}
use Rattle.theory.proofs.Grammar.Closure.{begins_kind, begins_step, begins_closed}
use Rattle.theory.specs.Table.{rule_at, accept_rule}
use Rattle.lines.specs.Limits.{max_nonterms}
use Rattle.table.specs.Members.{all_mem}
use Rattle.table.specs.Sets.{bit, In, SetOf}
use Rattle.table.specs.Notions.{nonterm}
use Rattle.table.specs.Firsts.{first_set, Firsts, total, FirstPart, FirstClosed, FirstGrown}
use Rattle.table.proofs.Bits.{or_right, or_cases, or_grows, none_in, single_in, single_only}

-- ---- all rows together

-- one row changed
pub total-set : (l : List ℕ) (k v : ℕ) → k < length l → total (set l k v) + get_or l k 0 ≡ total l + v
unfolding total
total-set [] k v h = absurd (omega arith)
total-set (x ∷ l) zero v h = omega arith
total-set (x ∷ l) (suc k) v h = let e = total-set l k v (omega arith) in omega arith

-- rows below a bound
pub total-bound : (b : ℕ) (l : List ℕ) → ((k : ℕ) → k < length l → get_or l k 0 < b) → total l ≤ length l * b
unfolding total
total-bound b [] h = omega arith
total-bound b (x ∷ l) h =
    let e = total-bound b l (λ k i. h (suc k) (omega arith)) in
    let f = h 0 (omega arith) in
    omega (arith, suc-mul (length l) b)

-- ---- the set of a symbol

-- of a kind
pub first_kind : (terms : ℕ) (rows : List ℕ) (x : ℕ) → x ≤ terms → first_set terms rows x ≡ 2 ^ x
unfolding first_set
first_kind terms rows x l = rw (le-leb x terms l, first_set) refl

-- of a nonterminal
pub first_row : (terms : ℕ) (rows : List ℕ) (x : ℕ) → terms < x → first_set terms rows x ≡ get_or rows (x - terms - 1) 0
unfolding first_set
first_row terms rows x l = rw (lt-leb x terms l, first_set) refl

module _ (g : Grammar) (rows : List ℕ) (p : FirstPart g rows) (x : ℕ) (l : x ≤ g.terms + g.nonterms) (n : x ≡ g.terms → ⊥) where
  -- a symbol that is no nonterminal is a kind
  is_kind : x ≤ g.terms → x < g.terms
  is_kind u = go (dec_lt x g.terms)
    where
      go : Dec (x < g.terms) → x < g.terms
      go (yes q) = q
      go (no q) = absurd (n (omega arith))

  -- what it has can begin the symbol
  pub first_begins : (t : ℕ) → In (first_set g.terms rows x) t → Begins g x t
  first_begins t i = go (dec_le x g.terms)
    where
      go : Dec (x ≤ g.terms) → Begins g x t
      go (yes u) =
          let e = single_only x t (subst (λ s. In s t) (first_kind g.terms rows x u) i) in
          subst (Begins g x) (sym e) (begins_kind x (is_kind u))
      go (no u) =
          let e : nonterm g (x - g.terms - 1) ≡ x = omega arith in
          subst (λ y. Begins g y t) e (p.right (x - g.terms - 1) t (omega arith) (subst (λ s. In s t) (first_row g.terms rows x (omega arith)) i))

  -- and it is a set of kinds
  pub first_below : length rows ≡ max_nonterms → g.nonterms ≤ max_nonterms → first_set g.terms rows x < 2 ^ g.terms
  first_below h w = go (dec_le x g.terms)
    where
      go : Dec (x ≤ g.terms) → first_set g.terms rows x < 2 ^ g.terms
      go (yes u) = rw (first_kind g.terms rows x u) (pow-lt (is_kind u))
      go (no u) = rw (first_row g.terms rows x (omega arith)) (p.below (x - g.terms - 1) (omega arith))

-- ---- what one rule makes of the rows

module _ (g : Grammar) (W : WellFormed g) (rows : List ℕ) (p : FirstPart g rows) (q : ℕ) (y : ℕ) (ys : List ℕ)
    (e : (rule_at g q).right ≡ y ∷ ys) (m : Mem (rule_at g q) g.rules) (w : g.nonterms ≤ max_nonterms) (k new : ℕ)
    (at : k ≡ (rule_at g q).left - g.terms - 1) (is : new ≡ bit_or (get_or rows k 0) (first_set g.terms rows y)) where
  -- the row of the left side
  left-row : first_set g.terms rows (rule_at g q).left ≡ get_or rows k 0
  left-row = let (a, b) = W.lefts (rule_at g q) m in first_row g.terms rows (rule_at g q).left a ∙ ap (λ (j : ℕ). get_or rows j 0) (sym at)

  -- the rule calls for nothing
  pub first_stays : new ≡ get_or rows k 0 → FirstGrown g (λ r. r ≡ q) rows rows false
  first_stays s = record {
    part = p;
    grows = le_refl (total rows);
    more = λ f. absurd (false≢true f);
    same = λ f. refl;
    closed = λ f r u. subst (λ r. FirstClosed g rows (rule_at g r)) (sym u) (λ z zs d t i.
        let same : y ≡ z = head-eq_of_cons-eq (sym e ∙ d) in
        let h : In (bit_or (get_or rows k 0) (first_set g.terms rows y)) t =
        or_right (get_or rows k 0) (first_set g.terms rows y) t (subst (λ v. In (first_set g.terms rows v) t) (sym same) i) in
        subst (λ v. In v t) (sym is ∙ s ∙ sym left-row) h);
  }

  -- the first symbol stands on the right side
  y_in : Mem y (rule_at g q).right
  y_in = rw e (Mem·head refl)

  -- the row grows
  pub first_rises : Reduced g → (new ≡ get_or rows k 0 → ⊥) → FirstGrown g (λ r. r ≡ q) rows (set rows k new) true
  first_rises R s = record {
    part = record { long = length-set rows k new ∙ p.long; below = below; right = right };
    grows = omega (arith, sum, rise);
    more = λ f. omega (arith, sum, rise);
    same = λ f. absurd (false≢true (sym f));
    closed = λ f. absurd (false≢true (sym f));
  }
    where
      lefts : (suc g.terms ≤ (rule_at g q).left) × ((rule_at g q).left ≤ g.terms + g.nonterms)
      lefts = W.lefts (rule_at g q) m

      inside : k < length rows
      inside = let (a, b) = lefts in let h = p.long in omega arith

      sum : total (set rows k new) + get_or rows k 0 ≡ total rows + new
      sum = total-set rows k new inside

      rise : get_or rows k 0 ≤ new
      rise = let h = or_grows (get_or rows k 0) (first_set g.terms rows y) in omega arith

      y_top : y ≤ g.terms + g.nonterms
      y_top = W.in_range (rule_at g q) y m y_in

      y_kind : y ≡ g.terms → ⊥
      y_kind = W.no_end (rule_at g q) y m y_in

      below : (j : ℕ) → j < length (set rows k new) → get_or (set rows k new) j 0 < 2 ^ g.terms
      below j l = go (ℕ_discrete j k)
        where
          go : Dec (j ≡ k) → get_or (set rows k new) j 0 < 2 ^ g.terms
          go (yes h) = rw (h, get_or-set_same rows k new 0 inside, is)
              (or_lt g.terms (get_or rows k 0) (first_set g.terms rows y) (p.below k inside) (first_below g rows p y y_top y_kind p.long w))
          go (no h) = rw (get_or-set_other rows k j new 0 h) (p.below j (rw (length-set rows k new) at l))

      right : (j t : ℕ) → j < g.nonterms → In (get_or (set rows k new) j 0) t → Begins g (nonterm g j) t
      right j t l i = go (ℕ_discrete j k)
        where
          go : Dec (j ≡ k) → Begins g (nonterm g j) t
          go (yes h) =
              let u : In (bit_or (get_or rows k 0) (first_set g.terms rows y)) t =
              subst (λ v. In v t) (ap (λ (z : ℕ). get_or (set rows k new) z 0) h ∙ get_or-set_same rows k new 0 inside ∙ is) i in
              let v : nonterm g k ≡ (rule_at g q).left = let (a, b) = lefts in omega arith in
              let z : nonterm g k ≡ nonterm g j = omega arith in
              subst (λ x. Begins g x t) z (⊎_elim (λ c. p.right k t (omega arith) c)
              (λ c. subst (λ x. Begins g x t) (sym v) (begins_step W R (rule_at g q) y ys t m e (first_begins g rows p y y_top y_kind t c)))
              (or_cases (get_or rows k 0) (first_set g.terms rows y) t u))
          go (no h) = p.right j t l (subst (λ v. In v t) (get_or-set_other rows k j new 0 h) i)

-- ---- what all rules make of the rows

module _ (g : Grammar) (rows : List ℕ) where
  -- no rule
  pub first-none : FirstPart g rows → FirstGrown g (λ q. q < 0) rows rows false
  first-none p = record {
    part = p;
    grows = le_refl (total rows);
    more = λ f. absurd (false≢true f);
    same = λ f. refl;
    closed = λ f. below_none _;
  }

  -- one more rule, by which a row grew
  pub first_more : {k : ℕ} {now new : List ℕ} {grew : Bool} → FirstGrown g (λ q. q < k) rows now grew → FirstGrown g (λ q. q ≡ k) now new true →
      FirstGrown g (λ q. q < k + 1) rows new true
  first_more h s = record {
    part = s.part;
    grows = let a = h.grows in let b = s.grows in omega arith;
    more = λ f. let a = h.grows in let b = s.more refl in omega arith;
    same = λ f. absurd (false≢true (sym f));
    closed = λ f. absurd (false≢true (sym f));
  }

  -- one more rule, by which none grew
  pub first_less : {k : ℕ} {now new : List ℕ} {grew : Bool} → FirstGrown g (λ q. q < k) rows now grew → FirstGrown g (λ q. q ≡ k) now new false →
      FirstGrown g (λ q. q < k + 1) rows new grew
  first_less {k} {now} {new} h s = record {
    part = s.part;
    grows = let a = h.grows in let b = s.grows in omega arith;
    more = λ f. let a = h.more f in let b = s.grows in omega arith;
    same = λ f. s.same refl ∙ h.same f;
    closed = λ f. below_more _ _ (h.closed f) (subst (λ l. FirstClosed g l (rule_at g k)) (h.same f) (s.closed refl k refl));
  }

-- a row of empty rows is empty
all_zero : (n k : ℕ) → ◌≡◌ {A = ℕ} (get_or (replicate n 0) k 0) 0
all_zero zero k = refl
all_zero (suc n) zero = refl
all_zero (suc n) (suc k) = all_zero n k

-- empty rows are a part
pub first_empty : (g : Grammar) → FirstPart g (replicate max_nonterms 0)
first_empty g = record {
  long = length-replicate {A = ℕ} max_nonterms 0;
  below = λ k l. rw (all_zero max_nonterms k) (pow_pos g.terms);
  right = λ k t l i. absurd (none_in t (subst (λ s. In s t) (all_zero max_nonterms k) i));
}

-- rows that no rule makes larger are exact
pub first_exact : (g : Grammar) (rows : List ℕ) → WellFormed g → FirstPart g rows → g.nonterms ≤ max_nonterms →
    ((q : ℕ) → q < length g.rules → FirstClosed g rows (rule_at g q)) → Firsts g rows
first_exact g rows W p w c = record { long = p.long; each = each }
  where
    row : (k : ℕ) → first_set g.terms rows (nonterm g k) ≡ get_or rows k 0
    row k = first_row g.terms rows (nonterm g k) (omega arith) ∙ ap (λ (j : ℕ). get_or rows j 0) (omega arith)

    closed : (r : Rule) → Mem r g.rules → FirstClosed g rows r
    closed = all_mem (FirstClosed g rows) g.rules (accept_rule g) c

    begun : ℕ → ℕ → Bool
    begun x t = eqb (bit (first_set g.terms rows x) t) 1

    all : (x t : ℕ) → Begins g x t → begun x t ≡ true
    all = begins_closed W begun (λ t l. eq-eqb _ _ (subst (λ s. In s t) (sym (first_kind g.terms rows t (omega arith))) (single_in t)))
        (λ r y ys t m e h. eq-eqb _ _ (closed r m y ys e t (eqb-true _ _ h)))

    each : (k : ℕ) → k < g.nonterms → SetOf (Begins g (nonterm g k)) g.terms (get_or rows k 0)
    each k l = record {
      below = let h = p.long in p.below k (omega arith);
      holds = λ t i. p.right k t l i;
      shows = λ t u b. subst (λ s. In s t) (row k) (eqb-true _ _ (all (nonterm g k) t b));
    }

-- ---- rounds end

-- how far the rows are from their bound; and one more round, if a row grew
pub left : Grammar → List ℕ → Bool → ℕ
left g rows grew = max_nonterms * 2 ^ g.terms - total rows + cond grew 1 0

-- a round brings the rows nearer to their bound, or is the last
pub left-falls : (g : Grammar) (Q : ℕ → Type 0) (rows new : List ℕ) (grew : Bool) → FirstPart g rows → FirstGrown g Q rows new grew →
    left g new grew < left g rows true
unfolding left
left-falls g Q rows new true p h =
    let m = h.more refl in
    let b = total-bound (2 ^ g.terms) new h.part.below in
    let e = ap (λ (n : ℕ). n * 2 ^ g.terms) h.part.long in
    omega arith
left-falls g Q rows new false p h = let e = ap (λ (l : List ℕ). total l) (h.same refl) in omega arith
