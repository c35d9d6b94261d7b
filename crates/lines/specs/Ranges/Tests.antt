-- Each test of the automaton says what the ranges say.
use Rattle.std.specs.Prelude.{ℕ, suc, ◌+◌, ◌≡◌, refl, Bool, true, ◌&&◌, not, List, [], ◌∷◌, ◌++◌, length, get_or, eqb, ltb, leb}
use Rattle.std.proofs.Common.{arith, ap, eqb-true, ne_eqb, ltb-true, lt-ltb, leb-true, le-leb}
use Rattle.std.proofs.lemmas.Bool.{false≢true, eqb-false, not-true}
use Rattle.std.proofs.lemmas.List.{map-append, length-map}
use mathlib.Core.List.Memᴰ
use mathlib.Core.List.Memᴰ.{head as Mem·head}
use mathlib.Core.List.Memᴰ.{tail as Mem·tail}
use Rattle.std.proofs.Math.ListN.{get_or-map}
use Rattle.theory.proofs.Basics.{both}
use Rattle.theory.specs.Grammar.{Rule, Grammar}
use Rattle.theory.specs.Table.{Item, Go, rule_at, accept_rule}
use Rattle.lines.specs.Limits.{max_right, max_items, max_gos}
use Rattle.lines.specs.Lines.{within, all, rises_from, rises, is_symbol, is_nonterm, is_ahead, ahead_fits, counts, at, rule_of, item_of, go_of, fits_rule, fits_item, fits_go, fits_state, rights, ons, may_go}
use Rattle.lines.specs.Ranges.{Within, Rising, RisingFrom, Symbol, RuleIn, ItemIn, GoIn, rule_line, item_line, go_line}
use Rattle.lines.specs.Basics.{All, impossible}

-- ---- conjunctions

-- two tests that pass
pub two : {a b : Bool} → a ≡ true → b ≡ true → (a && b) ≡ true
two {a} {b} p q = rw (p, q) refl

-- ---- the small tests

-- the test of a range
pub within-says : (lo hi x : ℕ) → within lo hi x ≡ true → Within lo hi x
within-says lo hi x e = let (p, q) = both (leb lo x) (leb x hi) e in (leb-true lo x p, leb-true x hi q)

-- the other way round
pub within-holds : (lo hi x : ℕ) → Within lo hi x → within lo hi x ≡ true
within-holds lo hi x w = two (le-leb lo x w.0) (le-leb x hi w.1)

-- the test of a symbol
pub symbol_says : (g : Grammar) (x : ℕ) → is_symbol g.terms g.nonterms x ≡ true → Symbol g x
symbol_says g x e =
    let (p, q) = both (leb x (g.terms + g.nonterms)) (not (eqb x g.terms)) e in
    (leb-true x (g.terms + g.nonterms) p, eqb-false x g.terms (not-true (eqb x g.terms) q))

-- the other way round
pub symbol_holds : (g : Grammar) (x : ℕ) → Symbol g x → is_symbol g.terms g.nonterms x ≡ true
symbol_holds g x s = two (le-leb x (g.terms + g.nonterms) s.0) (ap not (ne_eqb x g.terms s.1))

-- a test of every member
pub all-says : (f : ℕ → Bool) (xs : List ℕ) → all f xs ≡ true → All (λ x. f x ≡ true) xs
unfolding all
all-says f [] e x m = absurd (Memᴰ.not-nil m)
all-says f (y ∷ ys) e x (Mem·head p) = rw p (both (f y) (all f ys) e).0
all-says f (y ∷ ys) e x (Mem·tail m) = all-says f ys (both (f y) (all f ys) e).1 x m

-- the other way round
pub all-holds : (f : ℕ → Bool) (xs : List ℕ) → All (λ x. f x ≡ true) xs → all f xs ≡ true
unfolding all
all-holds f [] h = refl
all-holds f (y ∷ ys) h = two (h y (Mem·head refl)) (all-holds f ys (λ x m. h x (Mem·tail m)))

-- a list that rises from x
rises_from-says : (x : ℕ) (ys : List ℕ) → rises_from x ys ≡ true → RisingFrom x ys
unfolding rises_from
rises_from-says x [] e = tt
rises_from-says x (y ∷ ys) e = let (p, q) = both (ltb x y) (rises_from y ys) e in (ltb-true x y p, rises_from-says y ys q)

-- the other way round
rises_from-holds : (x : ℕ) (ys : List ℕ) → RisingFrom x ys → rises_from x ys ≡ true
unfolding rises_from
rises_from-holds x [] h = refl
rises_from-holds x (y ∷ ys) h = two (lt-ltb x y h.0) (rises_from-holds y ys h.1)

-- a rising list
pub rises-says : (xs : List ℕ) → rises xs ≡ true → Rising xs
unfolding rises
rises-says [] e = tt
rises-says (x ∷ xs) e = rises_from-says x xs e

-- the other way round
pub rises-holds : (xs : List ℕ) → Rising xs → rises xs ≡ true
unfolding rises
rises-holds [] h = refl
rises-holds (x ∷ xs) h = rises_from-holds x xs h

-- ---- a line of one number

-- it has one number, within the range
pub one_says : (lo hi : ℕ) (xs : List ℕ) → (counts 1 xs && within lo hi (at xs 0)) ≡ true → (n : ℕ) × (xs ≡ n ∷ []) × Within lo hi n
one_says lo hi [] e = absurd (false≢true e)
one_says lo hi (n ∷ []) e = (n, refl, within-says lo hi n e)
one_says lo hi (n ∷ (k ∷ xs)) e = let z = eqb-true (length (n ∷ (k ∷ xs))) 1 (both (counts 1 (n ∷ (k ∷ xs))) _ e).0 in impossible (omega arith)

-- ---- rules, states, items, go lines

-- a rule line that fits is that of a rule within the ranges
pub rule_says : (g : Grammar) (xs : List ℕ) → fits_rule g.terms g.nonterms xs ≡ true → (xs ≡ rule_line (rule_of xs)) × RuleIn g (rule_of xs)
unfolding fits_rule
rule_says g [] e = absurd (false≢true e)
rule_says g (x ∷ xs) e =
    let (ab, c) = both (within 2 (suc max_right) (suc (length xs)) && is_nonterm g.terms g.nonterms x) (all (is_symbol g.terms g.nonterms) xs) e in
    let (a, b) = both (within 2 (suc max_right) (suc (length xs))) (is_nonterm g.terms g.nonterms x) ab in
    let w = within-says 2 (suc max_right) (suc (length xs)) a in (
      refl,
      record {
        left_in = within-says _ _ x b;
        right_count = (omega arith, omega arith);
        right_in = λ y m. symbol_says g y (all-says (is_symbol g.terms g.nonterms) xs c y m);
      },
    )

-- the other way round
pub rule_holds : (g : Grammar) (r : Rule) → RuleIn g r → fits_rule g.terms g.nonterms (rule_line r) ≡ true
unfolding fits_rule
rule_holds g r h =
    two (two (within-holds 2 (suc max_right) (suc (length r.right)) (let w = h.right_count in (omega arith, omega arith))) (within-holds _ _ r.left h.left_in))
    (all-holds (is_symbol g.terms g.nonterms) r.right (λ x m. symbol_holds g x (h.right_in x m)))

-- a state line that fits
pub state_says : (xs : List ℕ) → fits_state xs ≡ true → (k : ℕ) × (l : ℕ) × (xs ≡ k ∷ l ∷ []) × Within 1 max_items k × Within 0 max_gos l
unfolding fits_state
state_says [] e = absurd (false≢true e)
state_says (a ∷ []) e = absurd (false≢true e)
state_says (a ∷ (b ∷ [])) e = let (p, q) = both (within 1 max_items a) (within 0 max_gos b) e in (a, b, refl, within-says _ _ a p, within-says _ _ b q)
state_says (a ∷ (b ∷ (c ∷ xs))) e =
    let z = eqb-true (length (a ∷ (b ∷ (c ∷ xs)))) 2 (both (counts 2 (a ∷ (b ∷ (c ∷ xs)))) _ (both (counts 2 (a ∷ (b ∷ (c ∷ xs))) && within 1 max_items a) _ e).0).0 in
    impossible (omega arith)

-- the other way round
pub state_holds : (k l : ℕ) → Within 1 max_items k → Within 0 max_gos l → fits_state (k ∷ l ∷ []) ≡ true
unfolding fits_state
state_holds k l p q = two (within-holds 1 max_items k p) (within-holds 0 max_gos l q)

-- the right sides' lengths of some rules and then of others
pub rights-append : (rs qs : List Rule) → rights (rs ++ qs) ≡ rights rs ++ rights qs
rights-append rs qs = map-append (λ (r : Rule). length r.right) rs qs

-- the symbols of some go lines and then of others
pub ons-append : (gs hs : List Go) → ons (gs ++ hs) ≡ ons gs ++ ons hs
ons-append gs hs = map-append (λ (l : Go). l.on) gs hs

-- as many right sides as rules
rights-count : (g : Grammar) → length (rights g.rules) ≡ length g.rules
rights-count g = length-map g.rules (λ (r : Rule). length r.right)

-- the length of a rule's right side; that of the accept rule, which is not listed, is 1
pub rights-at : (g : Grammar) (r : ℕ) → get_or (rights g.rules) r 1 ≡ length (rule_at g r).right
rights-at g r = get_or-map (λ (x : Rule). length x.right) g.rules r (accept_rule g)

-- an item line that fits
pub item_says : (g : Grammar) (xs : List ℕ) → fits_item g.terms (rights g.rules) xs ≡ true → (xs ≡ item_line (item_of xs)) × ItemIn g (item_of xs)
unfolding fits_item
item_says g [] e = absurd (false≢true e)
item_says g (r ∷ []) e = absurd (false≢true e)
item_says g (r ∷ (d ∷ xs)) e =
    let a : Bool = leb 3 (suc (suc (length xs))) in
    let b : Bool = leb r (length (rights g.rules)) in
    let c : Bool = leb d (get_or (rights g.rules) r 1) in
    let (abc, fs) = both (a && b && c) (ahead_fits g.terms xs) e in
    let (f, s) = both (all (is_ahead g.terms) xs) (rises xs) fs in
    let (ab, z) = both (a && b) c abc in
    let (x, y) = both a b ab in
    let w = leb-true 3 (suc (suc (length xs))) x in (
      refl,
      record {
        rule_in = rw (rights-count g) at (leb-true r (length (rights g.rules)) y);
        dot_in = rw (rights-at g r) at (leb-true d (get_or (rights g.rules) r 1) z);
        some_ahead = omega arith;
        ahead_in = λ t m. leb-true t g.terms (all-says (is_ahead g.terms) xs f t m);
        ahead_rises = rises-says xs s;
      },
    )

-- the other way round
pub item_holds : (g : Grammar) (i : Item) → ItemIn g i → fits_item g.terms (rights g.rules) (item_line i) ≡ true
unfolding fits_item
item_holds g i h =
    two (two (two (le-leb 3 (suc (suc (length i.ahead))) (let w = h.some_ahead in omega arith))
    (le-leb i.rule (length (rights g.rules)) (rw (rights-count g) h.rule_in)))
    (le-leb i.dot (get_or (rights g.rules) i.rule 1) (rw (rights-at g i.rule) h.dot_in)))
    (two (all-holds (is_ahead g.terms) i.ahead (λ t m. le-leb t g.terms (h.ahead_in t m))) (rises-holds i.ahead h.ahead_rises))

-- a go line that fits
pub go_says : (g : Grammar) (m : ℕ) (before : List Go) (xs : List ℕ) → fits_go g.terms g.nonterms m (may_go before) xs ≡ true →
    (xs ≡ go_line (go_of xs)) × GoIn g m (go_of xs) × Rising (ons before ++ (at xs 0 ∷ []))
unfolding fits_go
go_says g m before [] e = absurd (false≢true e)
go_says g m before (x ∷ []) e = absurd (false≢true e)
go_says g m before (x ∷ (s ∷ [])) e =
    let (ab, r) = both (is_symbol g.terms g.nonterms x && ltb s m) (rises (ons before ++ (x ∷ []))) e in
    let (a, b) = both (is_symbol g.terms g.nonterms x) (ltb s m) ab in
    (refl, record { on_in = symbol_says g x a; to_in = ltb-true s m b }, rises-says (ons before ++ (x ∷ [])) r)
go_says g m before (x ∷ (s ∷ (y ∷ xs))) e =
    let all : List ℕ = x ∷ (s ∷ (y ∷ xs)) in
    let (abc, _) = both (counts 2 all && is_symbol g.terms g.nonterms x && ltb s m) _ e in
    let (ab, _) = both (counts 2 all && is_symbol g.terms g.nonterms x) _ abc in
    let z = eqb-true (length all) 2 (both (counts 2 all) _ ab).0 in
    impossible (omega arith)

-- the other way round
pub go_holds : (g : Grammar) (m : ℕ) (before : List Go) (l : Go) → GoIn g m l → Rising (ons before ++ (l.on ∷ [])) →
    fits_go g.terms g.nonterms m (may_go before) (go_line l) ≡ true
unfolding fits_go
go_holds g m before l h r = two (two (symbol_holds g l.on h.on_in) (lt-ltb l.to m h.to_in)) (rises-holds (ons before ++ (l.on ∷ [])) r)
