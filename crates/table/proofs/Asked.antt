-- What an item asks of the rules of the nonterminal after its dot: something always; the set of it in each case of what stands next; and the
-- symbols after the dot as the code reads them.
use Prim.Native.Nat.{ℕ, suc, ◌+◌, ◌-◌, ◌^◌, ◌<◌, ◌≤◌}
use native.Mathlib.Omega.{arith}
use native.Mathlib.Decide.{dec_le}
use mathlib.Core.Path.{◌≡◌, refl, sym, ap, ◌∙◌, subst}
use mathlib.Core.List.{List, [], ◌∷◌, ◌++◌, nil≢cons, head-eq_of_cons-eq, tail-eq_of_cons-eq}
use mathlib.Core.List.Memᴰ
use mathlib.Core.List.{Memᴰ as Mem}
use mathlib.Core.Logic.{◌⊎◌, inl, inr, ⊎_elim}
use lib.ListN.{length, get_or, take, drop, length-drop}
use Rattle.theory.proofs.Basics.{cut_at, get_d_cases, drop-next, drop-mem}
use Rattle.theory.specs.Grammar.{Rule, Grammar, WellFormed, Reduced, Begins, Yields, end, kind, by, start}
use Rattle.theory.proofs.Grammar.Closure.{begins_kind}
use Rattle.theory.proofs.Grammar.Derive.{derives_yields}
use Rattle.theory.proofs.Grammar.First.{yields_token, begins_first}
use Rattle.theory.specs.Grammar.Fruitful.{Fruitful}
use Rattle.theory.proofs.Grammar.Fruitful.{fruitful_split, rule_fruitful}
use Rattle.theory.specs.Table.{Item, rest, rule_at, accept_rule}
use Rattle.lines.specs.Limits.{max_nonterms}
use Rattle.table.specs.declared.Sizes.{Sizes}
use Rattle.table.specs.Run.Sets.{begins_kinds}
use Rattle.table.specs.Members.{mem_at}
use Rattle.table.specs.Sets.{SetOf}
use Rattle.table.specs.Places.{Held, grammar_in}
use Rattle.table.specs.Places.Step.{held_formed, held_nonterms}
use Rattle.table.specs.Items.Dot.{no_mark, next_of}
use Rattle.table.specs.Notions.{nonterm}
use Rattle.table.specs.Firsts.{first_set, Firsts}
use Rattle.table.specs.Condition4.{Asks}
use Rattle.table.proofs.FirstSets.{first_kind, first_row}
use Rattle.table.proofs.SetOf.{set-as, set_one}
use Rattle.table.proofs.Inside.{set-wider}

-- ---- what can begin a symbol

-- what a kind yields begins with it
kind_yields : {g : Grammar} → WellFormed g → {α β : List ℕ} (x a : ℕ) (w : List ℕ) → x < g.terms → Yields g α β → α ≡ x ∷ [] → β ≡ a ∷ w → a ≡ x
kind_yields W x a w l end p q = absurd (nil≢cons p)
kind_yields W x a w l (kind {t} h y) p q = sym (head-eq_of_cons-eq q) ∙ head-eq_of_cons-eq p
kind_yields W x a w l (by r m y z) p q = let h = (W.lefts r m).0 in let e = head-eq_of_cons-eq p in absurd (omega arith)

-- only the kind itself can begin it
kind_begins : {g : Grammar} → WellFormed g → (x a : ℕ) → x < g.terms → Begins g x a → a ≡ x
kind_begins W x a l (w, d, o) = kind_yields W x a w l (derives_yields d o) refl refl

-- what can begin a kind, as a set
kind_set : {g : Grammar} → WellFormed g → (x : ℕ) → x < g.terms → SetOf (Begins g x) (suc g.terms) (2 ^ x)
kind_set {g} W x l = set-as (set_one (suc g.terms) x (omega arith)) (λ a e. subst (λ z. Begins g x z) (sym e) (begins_kind x l)) (λ a k. kind_begins W x a l k)

-- kinds alone can begin a symbol, so a set of them is one with the end mark too
begins_wider : {g : Grammar} {x set : ℕ} → SetOf (Begins g x) g.terms set → SetOf (Begins g x) (suc g.terms) set
begins_wider h = set-wider (omega arith) (λ a k. begins_kinds k) h

-- what can begin a symbol, by the rows
pub begins_set : (g : Grammar) (rows : List ℕ) → WellFormed g → Firsts g rows → (x : ℕ) → x ≤ g.terms + g.nonterms → (x ≡ g.terms → ⊥) →
    SetOf (Begins g x) (suc g.terms) (first_set g.terms rows x)
begins_set g rows W F x l n = go (dec_le x g.terms)
  where
    go : Dec (x ≤ g.terms) → SetOf (Begins g x) (suc g.terms) (first_set g.terms rows x)
    go (yes h) = rw (first_kind g.terms rows x h) (kind_set W x (omega arith))
    go (no h) =
        let e : nonterm g (x - g.terms - 1) ≡ x = omega arith in
        rw (first_row g.terms rows x (omega arith))
        (subst (λ y. SetOf (Begins g y) (suc g.terms) (get_or rows (x - g.terms - 1) 0)) e (begins_wider (F.each (x - g.terms - 1) (omega arith))))

-- ---- the set that is asked

module _ {g : Grammar} {i : Item} {b : ℕ} where
  -- the nonterminal is last: the item's own set
  pub asks_own : {n set : ℕ} → rest g i ≡ b ∷ [] → SetOf (λ a. Mem a i.ahead) n set → SetOf (Asks g b i) n set
  asks_own e h = set-as h (λ a m. Asks.last e m) from
    where
      from : (a : ℕ) → Asks g b i a → Mem a i.ahead
      from a (Asks.next x xs f k) = absurd (nil≢cons (tail-eq_of_cons-eq (sym e ∙ f)))
      from a (Asks.last f m) = m

  -- a symbol is next: what can begin it
  pub asks_next : {n set x : ℕ} {xs : List ℕ} → rest g i ≡ b ∷ x ∷ xs → SetOf (Begins g x) n set → SetOf (Asks g b i) n set
  asks_next {x = x} {xs = xs} e h = set-as h (λ a k. Asks.next x xs e k) from
    where
      from : (a : ℕ) → Asks g b i a → Begins g x a
      from a (Asks.next y ys f k) = subst (λ z. Begins g z a) (sym (head-eq_of_cons-eq (tail-eq_of_cons-eq (sym e ∙ f)))) k
      from a (Asks.last f m) = absurd (nil≢cons (sym (tail-eq_of_cons-eq (sym e ∙ f))))

-- ---- something is asked

-- of a right side's symbols each can be begun by some token
right-begins : {g : Grammar} → WellFormed g → Reduced g → (r : Rule) → Mem r g.rules → (d b x : ℕ) (xs : List ℕ) → drop d r.right ≡ b ∷ x ∷ xs →
    (a : ℕ) × Begins g x a
right-begins {g} W R r m d b x xs e =
    let f : Fruitful g (take d r.right ++ (b ∷ x ∷ xs)) = subst (λ l. Fruitful g l) (cut_at d r.right e) (rule_fruitful W R r m) in
    let f₁ : Fruitful g (b ∷ x ∷ xs) = (fruitful_split (take d r.right) (b ∷ x ∷ xs) f).1 in
    let f₂ : Fruitful g (x ∷ xs) = (fruitful_split (b ∷ []) (x ∷ xs) f₁).1 in
    let (w, y) = (fruitful_split (x ∷ []) xs f₂).0 in
    let (a, v, q) = yields_token W y (λ z. nil≢cons (sym z)) in
    (a, begins_first y q)

-- an item with a set and a symbol after its dot asks for something
pub some_asked : {g : Grammar} → WellFormed g → Reduced g → (i : Item) → 1 ≤ length i.ahead → (b : ℕ) (more : List ℕ) → rest g i ≡ b ∷ more →
    (a : ℕ) × Asks g b i a
some_asked {g} W R i n b [] e = (get_or i.ahead 0 0, Asks.last e (mem_at i.ahead 0 0 n))
some_asked {g} W R i n b (x ∷ xs) e = go (get_d_cases g.rules i.rule (accept_rule g))
  where
    go : Mem (rule_at g i.rule) g.rules ⊎ ((length g.rules ≤ i.rule) × (rule_at g i.rule ≡ accept_rule g)) → (a : ℕ) × Asks g b i a
    go (inl m) = let (a, k) = right-begins W R (rule_at g i.rule) m i.dot b x xs e in (a, Asks.next x xs e k)
    go (inr (l, q)) =
        let f : drop i.dot (start g ∷ []) ≡ b ∷ x ∷ xs = subst (λ r. drop i.dot r.right ≡ b ∷ x ∷ xs) q e in
        let h = length-drop i.dot (start g ∷ []) in
        let k = ap (λ (z : List ℕ). length z) f in
        absurd (omega arith)

-- ---- the symbol next after the one after the dot

module _ (g : Grammar) (i : Item) {b : ℕ} {more : List ℕ} (e : rest g i ≡ b ∷ more) where
  -- the end mark for it: there is none
  pub next_none : WellFormed g → get_or (rule_at g i.rule).right (i.dot + 1) g.terms ≡ g.terms → rest g i ≡ b ∷ []
  next_none W q = go more refl
    where
      go : (m : List ℕ) → more ≡ m → rest g i ≡ b ∷ []
      go [] f = e ∙ ap (λ (l : List ℕ). b ∷ l) f
      go (x ∷ xs) f =
          let k : drop (suc i.dot) (rule_at g i.rule).right ≡ x ∷ xs = drop-next i.dot (rule_at g i.rule).right e ∙ f in
          absurd (no_mark W i.rule x (drop-mem (suc i.dot) (rule_at g i.rule).right x xs k)
          (ap (λ (l : List ℕ). get_or l 0 g.terms) (sym f) ∙ (sym (next_of g i b more e) ∙ q)))

  -- another symbol
  pub next_some : (x : ℕ) → get_or (rule_at g i.rule).right (i.dot + 1) g.terms ≡ x → (x ≡ g.terms → ⊥) → (xs : List ℕ) × (rest g i ≡ b ∷ x ∷ xs)
  next_some x q n = go more refl
    where
      go : (m : List ℕ) → more ≡ m → (xs : List ℕ) × (rest g i ≡ b ∷ x ∷ xs)
      go [] f = absurd (n (sym q ∙ (next_of g i b more e ∙ ap (λ (l : List ℕ). get_or l 0 g.terms) f)))
      go (y ∷ ys) f =
          let k : y ≡ x = ap (λ (l : List ℕ). get_or l 0 g.terms) (sym f) ∙ (sym (next_of g i b more e) ∙ q) in
          (ys, e ∙ ap (λ (l : List ℕ). b ∷ l) (f ∙ ap (λ (z : ℕ). z ∷ ys) k))

-- ---- symbols as the code reads them

-- the symbol next after the one after the dot, by an item's rule and dot
pub next_symbol : (g : Grammar) (i : Item) {r d x : ℕ} → r ≡ i.rule → d ≡ i.dot → x ≡ get_or (rule_at g r).right (d + 1) g.terms →
    get_or (rule_at g i.rule).right (i.dot + 1) g.terms ≡ x
next_symbol g i p q e = sym (e ∙ λ j. get_or (rule_at g (p j)).right (q j + 1) g.terms)

-- a symbol of a right side, or the end mark past its end, is no higher than the last nonterminal
symbol_in : {g : Grammar} → WellFormed g → (r j : ℕ) → get_or (rule_at g r).right j g.terms ≤ g.terms + g.nonterms
symbol_in {g} W r j = ⊎_elim (λ m. in_rule (get_d_cases g.rules r (accept_rule g)) m) (λ (l, q). omega arith) (get_d_cases (rule_at g r).right j g.terms)
  where
    in_rule : Mem (rule_at g r) g.rules ⊎ ((length g.rules ≤ r) × (rule_at g r ≡ accept_rule g)) → {x : ℕ} → Mem x (rule_at g r).right → x ≤ g.terms + g.nonterms
    in_rule (inl k) {x} m = W.in_range (rule_at g r) x k m
    in_rule (inr (l, q)) {x} m =
        let n : Mem x (start g ∷ []) = subst (λ u. Mem x u.right) q m in
        let h = Memᴰ.eq_of_singleton n in
        let s = W.has_start in
        omega arith

-- a symbol that the code has read has a row
pub symbol_below : {ns places : List ℕ} {z : Sizes} → Held ns places z → (r j : ℕ) {x : ℕ} → x ≡ get_or (rule_at (grammar_in ns) r).right j (grammar_in ns).terms →
    (x ≤ z.terms + z.nonterms) × (z.nonterms ≤ max_nonterms)
symbol_below H r j e =
    let h = symbol_in (held_formed H) r j in
    let t = H.terms_are in
    let n = H.nonterms_are in
    (omega arith, held_nonterms H)
