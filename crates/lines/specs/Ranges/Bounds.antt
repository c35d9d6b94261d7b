-- What a draft holds stays within the ranges, line by line; so a line that fits is short and its numbers are small.
use Rattle.std.specs.Prelude.{ℕ, zero, suc, ◌+◌, ◌≤◌, ◌≡◌, refl, true, ◌&&◌, List, [], ◌∷◌, ◌++◌, length, get_or, drop, ltb}
use Rattle.std.proofs.Common.{arith, sym, subst, ⊎_elim, length-append}
use Rattle.std.proofs.lemmas.Bool.{false≢true}
use Rattle.theory.proofs.Basics.{both, get_d_cases}
use Rattle.theory.specs.Grammar.{Rule}
use Rattle.theory.specs.Table.{Item, Go, State, rule_at}
use Rattle.lines.specs.Basics.{All, all_nil, all_cons, all_head, all_tail, all_append, never, impossible}
use Rattle.lines.specs.Limits.{max_terms, max_nonterms, max_rules, max_right, max_states, max_items, max_line}
use Rattle.lines.specs.Lines.{Due, Draft, heading, body, start, settled, less, while_left, grammar_of, fits, next, rises, at, counts, within, fits_one, fits_rule, is_symbol, may_go, rights, ons, rule_of, item_of, go_of}
use Rattle.lines.specs.Ranges.{Within, Rising, RisingFrom, ItemIn, item_line}
use Rattle.lines.specs.Ranges.Tests.{within-says, one_says, rule_says, state_says, item_says, go_says, rights-at, rights-append, ons-append}
use Rattle.lines.specs.Ranges.Small.{Small}

-- ---- what a draft holds

-- the counts, the right sides' lengths and the go lines of a draft are within the ranges
pub record Bounded (d : Draft) : Type 0 where
  pub terms_in : d.terms ≤ max_terms
  pub nonterms_in : d.nonterms ≤ max_nonterms
  -- with those to come, and where a rule line is due one is to come
  pub rules_in : length d.rules + d.left_rules ≤ max_rules
  pub rule_left : d.due ≡ Due.rule → 1 ≤ d.left_rules
  pub rights_in : All (λ k. k ≤ max_right) (rights d.rules)
  pub states_in : d.count ≤ max_states
  -- of the state being read
  pub gos_rise : rises (ons d.gos) ≡ true

-- the same draft with another line due
abbrev pub with_due : Due → Draft → Draft
with_due w d = record {
  due = w;
  terms = d.terms;
  nonterms = d.nonterms;
  left_rules = d.left_rules;
  rules = d.rules;
  count = d.count;
  left_states = d.left_states;
  left_items = d.left_items;
  left_gos = d.left_gos;
  items = d.items;
  gos = d.gos;
  states = d.states;
}

-- ---- small laws

-- one less of some
less-some : (k : ℕ) → 1 ≤ k → suc (less k) ≡ k
less-some zero h = impossible (omega arith)
less-some (suc k) h = refl

-- where a rule line is due one is left
rule-due : (k : ℕ) → while_left k Due.rule Due.states ≡ Due.rule → 1 ≤ k
rule-due zero e = never cc
rule-due (suc k) e = omega arith

-- where a state line or none is due no rule line is
not_rule : (j : ℕ) → while_left j Due.state Due.end ≡ Due.rule → ⊥
not_rule zero e = never cc
not_rule (suc j) e = never cc

-- the one number of a line
one_in : (most : ℕ) (xs : List ℕ) → fits_one most xs ≡ true → Within 1 most (at xs 0)
one_in most xs f = within-says 1 most (at xs 0) (both (counts 1 xs) (within 1 most (at xs 0)) f).1

-- ---- each line keeps the bounds

-- at the start
pub start-bounded : Bounded start
unfolding rises
start-bounded = record {
  terms_in = omega arith;
  nonterms_in = omega arith;
  rules_in = omega arith;
  rule_left = λ e. never cc;
  rights_in = all_nil (λ k. k ≤ max_right);
  states_in = omega arith;
  gos_rise = refl;
}

-- a draft before the states
heading-bounded : (w : Due) (t n k : ℕ) (rs : List Rule) → t ≤ max_terms → n ≤ max_nonterms → length rs + k ≤ max_rules → (w ≡ Due.rule → 1 ≤ k) →
    All (λ x. x ≤ max_right) (rights rs) → Bounded (heading w t n k rs)
unfolding rises
heading-bounded w t n k rs p q r s a = record {
  terms_in = p;
  nonterms_in = q;
  rules_in = r;
  rule_left = s;
  rights_in = a;
  states_in = omega arith;
  gos_rise = refl;
}

-- a draft among the states, with the rules of a bounded one
body-bounded : (w : Due) (d : Draft) (m j i l : ℕ) (is : List Item) (gs : List Go) (ss : List State) → Bounded d → (w ≡ Due.rule → ⊥) → m ≤ max_states →
    rises (ons gs) ≡ true → Bounded (body w (grammar_of d) m j i l is gs ss)
body-bounded w d m j i l is gs ss b n h u = record {
  terms_in = b.terms_in;
  nonterms_in = b.nonterms_in;
  rules_in = let r = b.rules_in in omega arith;
  rule_left = λ e. absurd (n e);
  rights_in = b.rights_in;
  states_in = h;
  gos_rise = u;
}

-- a draft after an item line or a go line
settled-bounded : (d : Draft) (i l : ℕ) (is : List Item) (gs : List Go) → Bounded d → rises (ons gs) ≡ true →
    Bounded (settled (grammar_of d) d.count d.left_states i l is gs d.states)
unfolding settled rises
settled-bounded d zero zero is gs b u = body-bounded _ d d.count d.left_states 0 0 [] [] _ b (not_rule d.left_states) b.states_in refl
settled-bounded d zero (suc l) is gs b u = body-bounded Due.go d d.count d.left_states 0 (suc l) is gs d.states b (λ e. never cc) b.states_in u
settled-bounded d (suc i) l is gs b u = body-bounded Due.item d d.count d.left_states (suc i) l is gs d.states b (λ e. never cc) b.states_in u

-- a rule line is taken in
rule-bounded : (d : Draft) (xs : List ℕ) → Bounded d → d.due ≡ Due.rule → fits_rule d.terms d.nonterms xs ≡ true →
    Bounded (heading (while_left (less d.left_rules) Due.rule Due.states) d.terms d.nonterms (less d.left_rules) (d.rules ++ (rule_of xs ∷ [])))
rule-bounded d xs b e f =
    let k = less-some d.left_rules (b.rule_left e) in
    let (p, i) = rule_says (grammar_of d) xs f in
    heading-bounded _ d.terms d.nonterms (less d.left_rules) _ b.terms_in b.nonterms_in
    (let r = b.rules_in in simp length-append (omega arith))
    (rule-due (less d.left_rules))
    (rw (rights-append d.rules (rule_of xs ∷ [])) (all_append (λ x. x ≤ max_right) _ _ b.rights_in
    (all_cons (λ x. x ≤ max_right) i.right_count.1 (all_nil (λ x. x ≤ max_right)))))

-- one line more, whichever is due
step_bounded : (w : Due) (d : Draft) (xs : List ℕ) → Bounded (with_due w d) → fits (with_due w d) xs ≡ true → Bounded (next (with_due w d) xs)
unfolding fits next rises
step_bounded Due.terms d xs b f = heading-bounded Due.nonterms _ 0 0 [] (one_in max_terms xs f).1 (omega arith) (omega arith) (λ e. never cc) (all_nil _)
step_bounded Due.nonterms d xs b f =
    heading-bounded Due.rules _ _ 0 [] b.terms_in (one_in max_nonterms xs f).1 (omega arith) (λ e. never cc) (all_nil _)
step_bounded Due.rules d xs b f =
    let w = one_in max_rules xs f in
    heading-bounded Due.rule _ _ (at xs 0) [] b.terms_in b.nonterms_in (omega arith) (λ e. w.0) (all_nil _)
step_bounded Due.rule d xs b f = rule-bounded (with_due Due.rule d) xs b refl f
step_bounded Due.states d xs b f = body-bounded Due.state (with_due Due.states d) (at xs 0) (at xs 0) 0 0 [] [] [] b (λ e. never cc) (one_in max_states xs f).1 refl
step_bounded Due.state d xs b f = body-bounded Due.item (with_due Due.state d) d.count _ _ _ [] [] d.states b (λ e. never cc) b.states_in refl
step_bounded Due.item d xs b f = settled-bounded (with_due Due.item d) (less d.left_items) d.left_gos (d.items ++ (item_of xs ∷ [])) d.gos b b.gos_rise
step_bounded Due.go d xs b f =
    settled-bounded (with_due Due.go d) d.left_items (less d.left_gos) d.items (d.gos ++ (go_of xs ∷ [])) b
    (rw (ons-append d.gos (go_of xs ∷ [])) (both (counts 2 xs && is_symbol d.terms d.nonterms (at xs 0) && ltb (at xs 1) d.count) (may_go d.gos (at xs 0)) f).1)
step_bounded Due.end d xs b f = absurd (false≢true f)

-- a line that fits keeps the bounds
pub next-bounded : (d : Draft) (xs : List ℕ) → Bounded d → fits d xs ≡ true → Bounded (next d xs)
next-bounded d xs b f = step_bounded d.due d xs b f

-- ---- a line that fits is short, and its numbers are small

-- a line of few and small numbers
abbrev pub Slight : List ℕ → Type 0
Slight xs = (length xs ≤ max_line) × Small xs

-- a line of one number
one_slight : (most : ℕ) (xs : List ℕ) → most ≤ max_items → fits_one most xs ≡ true → Slight xs
one_slight most xs h f =
    let (n, e, w) = one_says 1 most xs f in
    subst Slight (sym e) (omega arith, all_cons (λ k. k ≤ max_items) (omega arith) (all_nil _))

-- no right side is longer than the longest
dot_small : (d : Draft) → Bounded d → (r : ℕ) → length (rule_at (grammar_of d) r).right ≤ max_right
dot_small d b r =
    subst (λ k. k ≤ max_right) (rights-at (grammar_of d) r)
    (⊎_elim (λ m. b.rights_in (get_or (rights d.rules) r 1) m) (λ e. let z = e.1 in omega arith) (get_d_cases (rights d.rules) r 1))

-- numbers up to t that rise from x
rising_from_short : (t x : ℕ) (ys : List ℕ) → x ≤ t → RisingFrom x ys → All (λ a. a ≤ t) ys → x + length ys ≤ t
rising_from_short t x [] h u a = omega arith
rising_from_short t x (y ∷ ys) h u a =
    let k = rising_from_short t y ys (all_head (λ a. a ≤ t) a) u.1 (all_tail (λ a. a ≤ t) a) in let l = u.0 in omega arith

-- a rising list of numbers up to t has at most t + 1
rising_short : (t : ℕ) (xs : List ℕ) → Rising xs → All (λ a. a ≤ t) xs → length xs ≤ suc t
rising_short t [] u a = omega arith
rising_short t (x ∷ xs) u a = let k = rising_from_short t x xs (all_head (λ a. a ≤ t) a) u (all_tail (λ a. a ≤ t) a) in omega arith

-- a rule line
rule_slight : (d : Draft) (xs : List ℕ) → Bounded d → fits_rule d.terms d.nonterms xs ≡ true → Slight xs
rule_slight d xs b f =
    let (e, i) = rule_says (grammar_of d) xs f in
    let p = b.terms_in in let q = b.nonterms_in in let c = i.right_count in let l = i.left_in in
    subst Slight (sym e) (omega arith, all_cons (λ k. k ≤ max_items) (omega arith) (λ x m. let s = (i.right_in x m).0 in omega arith))

-- an item line
item_slight : (d : Draft) (xs : List ℕ) → Bounded d → (xs ≡ item_line (item_of xs)) × ItemIn (grammar_of d) (item_of xs) → Slight xs
item_slight d xs b (e, i) =
    let p = b.terms_in in let q = b.rules_in in let r = i.rule_in in let c = i.dot_in in let k = dot_small d b (at xs 0) in
    let s = rising_short d.terms (drop 2 xs) i.ahead_rises i.ahead_in in
    subst Slight (sym e)
    (omega arith, all_cons (λ k. k ≤ max_items) (omega arith) (all_cons (λ k. k ≤ max_items) (omega arith) (λ x m. let s = i.ahead_in x m in omega arith)))

-- a line of any kind
step_slight : (w : Due) (d : Draft) (xs : List ℕ) → Bounded (with_due w d) → fits (with_due w d) xs ≡ true → Slight xs
unfolding fits
step_slight Due.terms d xs b f = one_slight max_terms xs (omega arith) f
step_slight Due.nonterms d xs b f = one_slight max_nonterms xs (omega arith) f
step_slight Due.rules d xs b f = one_slight max_rules xs (omega arith) f
step_slight Due.rule d xs b f = rule_slight (with_due Due.rule d) xs b f
step_slight Due.states d xs b f = one_slight max_states xs (omega arith) f
step_slight Due.state d xs b f =
    let (k, l, e, p, q) = state_says xs f in
    subst Slight (sym e) (omega arith, all_cons (λ k. k ≤ max_items) (omega arith) (all_cons (λ k. k ≤ max_items) (omega arith) (all_nil _)))
step_slight Due.item d xs b f = item_slight (with_due Due.item d) xs b (item_says (grammar_of d) xs f)
step_slight Due.go d xs b f =
    let (e, i, u) = go_says (grammar_of d) d.count d.gos xs f in
    let p = b.terms_in in let q = b.nonterms_in in let c = b.states_in in let s = i.on_in.0 in let t = i.to_in in
    subst Slight (sym e) (omega arith, all_cons (λ k. k ≤ max_items) (omega arith) (all_cons (λ k. k ≤ max_items) (omega arith) (all_nil _)))
step_slight Due.end d xs b f = absurd (false≢true f)

-- a line that fits has at most `max_line` numbers, none above the largest limit
pub fits-slight : (d : Draft) (xs : List ℕ) → Bounded d → fits d xs ≡ true → Slight xs
fits-slight d xs b f = step_slight d.due d xs b f
