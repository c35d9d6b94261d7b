-- While the lines of a table are read the parts of the draft stand at their places: at the start, and after every line that fits.
use Prim.Native.Nat.{ℕ, zero, suc, ◌+◌, ◌-◌, ◌*◌, ◌≤◌, ◌<◌}
use native.Mathlib.Omega.{arith}
use native.Mathlib.Decide.{dec_lt}
use mathlib.Core.Path.{◌≡◌, refl, sym, ap, ◌∙◌, subst}
use mathlib.Core.Bool.{true, false≢true}
use mathlib.Core.List.{List, [], ◌∷◌, ◌++◌}
use lib.ListN.{length, get_or, set, get_or-append}
use lib.Seq.{get_or-append_seam, get_or-set_same, get_or-set_other}
use Rattle.theory.specs.Grammar.{Rule, Grammar}
use Rattle.theory.specs.Table.{Item, Go, State, no_state, accept_rule}
use Rattle.lines.specs.Basics.{impossible}
use Rattle.lines.specs.Limits.{max_rules, max_states}
use Rattle.lines.specs.Lines.{Due, Draft, start, fits, next, settled, less, while_left, grammar_of, rule_of, item_of, go_of}
use Rattle.lines.specs.Lines.Fits.{at}
use Rattle.lines.specs.Ranges.Tests.{one_says, rule_says, state_says, item_says, go_says}
use Rattle.lines.specs.Ranges.Bounds.{Bounded, with_due}
use Rattle.lines.specs.Shape.Shaped.{shape_of}
use Rattle.table.specs.Places.{LineAt, RuleAt, ItemAt, GoAt, no_item, no_go, item_place, after_state, StateAt, RulesAt, StatesTo}
use Rattle.table.specs.Places.Step.{item_first}
use Rattle.table.specs.Lined.{rules_with, states_with}
use Rattle.table.specs.Walk.{InState, Stands, Drafted}
use Rattle.table.proofs.Reading.{line_rule, line_item, line_go, length_more, more_at, item_place-more, item_place-last}

-- ---- rules

-- one more rule
rules-more : (ns places : List ℕ) (p : ℕ) (g : Grammar) (r : Rule) → RulesAt ns places g → RuleAt ns p r → length g.rules < length places →
    RulesAt ns (set places (length g.rules) p) (record { terms = g.terms; nonterms = g.nonterms; rules = g.rules ++ (r ∷ []) })
rules-more ns places p g r h a l =
    more_at (λ k x. RuleAt ns (get_or (set places (length g.rules) p) k 0) x) g.rules r (accept_rule g)
    (λ k i. rw (get_or-set_other places (length g.rules) k p 0 (λ e. impossible (omega arith))) (h k i))
    (rw (get_or-set_same places (length g.rules) p 0 l) a)

-- ---- states

-- no state
none_to : (ns places : List ℕ) (p : ℕ) → StatesTo ns places [] p
none_to ns places p = record {
  each = λ s l. impossible (omega arith);
  next = λ s l. impossible (omega arith);
  last = λ s e. impossible (omega arith);
}

-- the place after the last one is noted
noted_to : (ns places : List ℕ) (p : ℕ) (ss : List State) → length ss < length places → StatesTo ns places ss p →
    StatesTo ns (set places (length ss) p) ss (get_or (set places (length ss) p) (length ss) 0)
noted_to ns places p ss l h = record {
  each = λ s i. rw (other s i) (h.each s i);
  next = λ s i. let k : s < length ss = omega arith in rw (other s k, other (suc s) i) (h.next s i);
  last = λ s e. let k : s < length ss = omega arith in rw (other s k, get_or-set_same places (length ss) p 0 l) (h.last s e);
}
  where
    other : (s : ℕ) → s < length ss → get_or (set places (length ss) p) s 0 ≡ get_or places s 0
    other s i = get_or-set_other places (length ss) s p 0 (λ e. impossible (omega arith))

-- a state that is read to its end is one more
state_done : (ns : List ℕ) (p : ℕ) (places : List ℕ) (ss : List State) (is : List Item) (gs : List Go) → InState ns p places ss is gs 0 0 →
    StatesTo ns places (ss ++ (record { items = is; gos = gs } ∷ [])) p
state_done ns p places ss is gs h = record { each = each; next = after; last = last }
  where
    st : State
    st = record { items = is; gos = gs }

    each : (s : ℕ) → s < length (ss ++ (st ∷ [])) → StateAt ns (get_or places s 0) (get_or (ss ++ (st ∷ [])) s no_state)
    each = more_at (λ k x. StateAt ns (get_or places k 0) x) ss st no_state h.before.each (record {
      inside = h.inside;
      counted = h.counted;
      items_counted = let e = h.items_counted in omega arith;
      gos_counted = let e = h.gos_counted in omega arith;
      items_at = h.items_at;
      gos_at = h.gos_at;
    })

    after : (s : ℕ) → suc s < length (ss ++ (st ∷ [])) → after_state (get_or places s 0) (get_or (ss ++ (st ∷ [])) s no_state) ≡ get_or places (suc s) 0
    after s l =
        let m = length_more ss st in
        rw (get_or-append ss (st ∷ []) no_state s (omega arith)) (go (dec_lt (suc s) (length ss)))
      where
        go : Dec (suc s < length ss) → after_state (get_or places s 0) (get_or ss s no_state) ≡ get_or places (suc s) 0
        go (yes i) = h.before.next s i
        go (no n) =
            let m = length_more ss st in
            let e : suc s ≡ length ss = omega arith in
            h.before.last s e ∙ ap (λ (k : ℕ). get_or places k 0) (sym e)

    last : (s : ℕ) → suc s ≡ length (ss ++ (st ∷ [])) → after_state (get_or places s 0) (get_or (ss ++ (st ∷ [])) s no_state) ≡ p
    last s e =
        let m = length_more ss st in
        let k : s ≡ length ss = omega arith in
        rw (k, get_or-append_seam ss st [] no_state) (sym h.here)

-- ---- inside a state

module _ (ns : List ℕ) (p : ℕ) (places : List ℕ) (ss : List State) (is : List Item) (gs : List Go) where
  -- one more item
  item_more : (i l : ℕ) (x : Item) → InState ns p places ss is gs (suc i) l → gs ≡ [] → ItemAt ns p x →
      InState ns (p + 3 + length x.ahead) places ss (is ++ (x ∷ [])) gs i l
  item_more i l x h e a =
      let q = get_or places (length ss) 0 + 3 in
      let z : length gs ≡ 0 = ap (λ (y : List Go). length y) e in
      let t : p ≡ item_place q is (length is) = let u = h.here in omega arith in
      let m = length_more is x in
      let f = item_place-last q is x in
      record {
        before = h.before;
        inside = h.inside;
        counted = h.counted;
        items_counted = let c = h.items_counted in omega arith;
        gos_counted = h.gos_counted;
        items_at = λ k b. more_at (λ j y. ItemAt ns (item_place q (is ++ (x ∷ [])) j) y) is x no_item
            (λ j c. subst (λ y. ItemAt ns y (get_or is j no_item)) (sym (item_place-more q is x j (omega arith))) (h.items_at j c))
            (subst (λ y. ItemAt ns y x) (t ∙ sym (item_place-more q is x (length is) (omega arith))) a) k b;
        gos_at = λ k b. impossible (omega arith);
        here = omega arith;
      }

  -- one more go line
  go_more : (i l : ℕ) (x : Go) → InState ns p places ss is gs i (suc l) → GoAt ns p x → InState ns (p + 3) places ss is (gs ++ (x ∷ [])) i l
  go_more i l x h a =
      let m = length_more gs x in
      record {
        before = h.before;
        inside = h.inside;
        counted = h.counted;
        items_counted = h.items_counted;
        gos_counted = let c = h.gos_counted in omega arith;
        items_at = h.items_at;
        gos_at = more_at (λ j y. GoAt ns (item_place (get_or places (length ss) 0 + 3) is (length is) + 3 * j) y) gs x no_go h.gos_at
            (subst (λ y. GoAt ns y x) h.here a);
        here = let u = h.here in omega arith;
      }

-- what is due then
settled-stands : (ns : List ℕ) (p : ℕ) (places : List ℕ) (g : Grammar) (m j i l : ℕ) (is : List Item) (gs : List Go) (ss : List State) →
    InState ns p places ss is gs i l → (1 ≤ i → gs ≡ []) → length ss + 1 + j ≡ m →
    Stands ns p places (settled g m j i l is gs ss) (settled g m j i l is gs ss).due
unfolding settled
settled-stands ns p places g m zero zero zero is gs ss h e c =
    let k = length_more ss (record { items = is; gos = gs }) in
    (state_done ns p places ss is gs h, omega arith)
settled-stands ns p places g m (suc j) zero zero is gs ss h e c =
    let k = length_more ss (record { items = is; gos = gs }) in
    (state_done ns p places ss is gs h, omega arith, omega arith)
settled-stands ns p places g m j zero (suc l) is gs ss h e c = (h, c, omega arith, refl)
settled-stands ns p places g m j (suc i) l is gs ss h e c = (h, c, omega arith, e (omega arith))

-- the lines of a state leave the rules
settled-rules : (g : Grammar) (m j i l : ℕ) (is : List Item) (gs : List Go) (ss : List State) → grammar_of (settled g m j i l is gs ss) ≡ g
unfolding settled
settled-rules g m j zero zero is gs ss = refl
settled-rules g m j zero (suc l) is gs ss = refl
settled-rules g m j (suc i) l is gs ss = refl

-- ---- every line

-- nothing was read
pub start-drafted : (ns rulePlaces statePlaces : List ℕ) → Drafted ns 0 rulePlaces statePlaces start
start-drafted ns rulePlaces statePlaces = record { rules_at = λ r l. impossible (omega arith); stands = tt }

-- before the states nothing is asked
rule-stands : (ns : List ℕ) (p : ℕ) (places : List ℕ) (d : Draft) (k : ℕ) → Stands ns p places d (while_left k Due.rule Due.states)
rule-stands ns p places d zero = tt
rule-stands ns p places d (suc k) = tt

-- one less of some, and one more
some_less : (k : ℕ) → 1 ≤ k → suc (less k) ≡ k
some_less zero h = impossible (omega arith)
some_less (suc k) h = refl

module _ (ns : List ℕ) (p : ℕ) (ra sa xs : List ℕ) (d : Draft) (a : LineAt ns p xs) where
  -- a rule line
  rule-drafted : RulesAt ns ra (grammar_of d) → length d.rules < length ra → fits (with_due Due.rule d) xs ≡ true →
      Drafted ns (p + 1 + length xs) (set ra (length d.rules) p) sa (next (with_due Due.rule d) xs)
  unfolding fits next
  rule-drafted h l f =
      let e = (rule_says (grammar_of d) xs f).0 in
      record {
        rules_at = rules-more ns ra p (grammar_of d) (rule_of xs) h (line_rule ns p (rule_of xs) (subst (LineAt ns p) e a)) l;
        stands = rule-stands ns _ sa (next (with_due Due.rule d) xs) (less d.left_rules);
      }

  -- the count of states
  states-drafted : RulesAt ns ra (grammar_of d) → fits (with_due Due.states d) xs ≡ true → Drafted ns (p + 1 + length xs) ra sa (next (with_due Due.states d) xs)
  unfolding fits next
  states-drafted h f =
      let (n, e, w) = one_says 1 max_states xs f in
      let z : at xs 0 ≡ n = ap (λ (l : List ℕ). at l 0) e in
      record { rules_at = h; stands = (none_to ns sa _, omega arith, omega arith) }

  -- a state line
  state-drafted : RulesAt ns ra (grammar_of d) → Stands ns p sa d Due.state → length d.states < length sa → fits (with_due Due.state d) xs ≡ true →
      Drafted ns (p + 1 + length xs) ra (set sa (length d.states) p) (next (with_due Due.state d) xs)
  unfolding fits next
  state-drafted h (s, c, b) l f =
      let (m, n, e, u, v) = state_says xs f in
      let place = get_or-set_same sa (length d.states) p 0 l in
      let z : LineAt ns p (m ∷ n ∷ []) = subst (LineAt ns p) e a in
      let i = z.inside in
      let q = some_less d.left_states b in
      let x : at xs 0 ≡ m = ap (λ (y : List ℕ). at y 0) e in
      let y : at xs 1 ≡ n = ap (λ (y : List ℕ). at y 1) e in
      let k : length xs ≡ 2 = ap (λ (y : List ℕ). length y) e in
      let first = item_first (p + 3) [] in
      record {
        rules_at = h;
        stands = (
          record {
            before = noted_to ns sa p d.states l s;
            inside = rw place (omega arith);
            counted = rw place z.counted;
            items_counted = rw (place, x) (ap (λ (j : ℕ). get_or ns j 0) (omega arith) ∙ (z.numbers 0 (omega arith) ∙ omega arith));
            gos_counted = rw (place, y) (ap (λ (j : ℕ). get_or ns j 0) (omega arith) ∙ (z.numbers 1 (omega arith) ∙ omega arith));
            items_at = λ j g. impossible (omega arith);
            gos_at = λ j g. impossible (omega arith);
            here = rw place (omega arith);
          },
          omega arith,
          omega arith,
          refl,
        );
      }

  -- an item line
  item-drafted : RulesAt ns ra (grammar_of d) → Stands ns p sa d Due.item → fits (with_due Due.item d) xs ≡ true →
      Drafted ns (p + 1 + length xs) ra sa (next (with_due Due.item d) xs)
  unfolding fits next
  item-drafted h (s, c, b, n) f =
      let e = (item_says (grammar_of d) xs f).0 in
      let q = some_less d.left_items b in
      let k : length xs ≡ 2 + length (item_of xs).ahead = ap (λ (y : List ℕ). length y) e ∙ omega arith in
      let t : p + 3 + length (item_of xs).ahead ≡ p + 1 + length xs = omega arith in
      let more = item_more ns p sa d.states d.items d.gos (less d.left_items) d.left_gos (item_of xs)
      (subst (λ y. InState ns p sa d.states d.items d.gos y d.left_gos) (sym q) s) n (line_item ns p (item_of xs) (subst (LineAt ns p) e a)) in
      record {
        rules_at = subst (RulesAt ns ra) (sym (settled-rules (grammar_of d) d.count d.left_states (less d.left_items) d.left_gos (d.items ++ (item_of xs ∷ [])) d.gos d.states)) h;
        stands = settled-stands ns (p + 1 + length xs) sa (grammar_of d) d.count d.left_states (less d.left_items) d.left_gos (d.items ++ (item_of xs ∷ []))
            d.gos d.states (subst (λ y. InState ns y sa d.states (d.items ++ (item_of xs ∷ [])) d.gos (less d.left_items) d.left_gos) t more) (λ i. n) c;
      }

  -- a go line
  go_drafted : RulesAt ns ra (grammar_of d) → Stands ns p sa d Due.go → fits (with_due Due.go d) xs ≡ true →
      Drafted ns (p + 1 + length xs) ra sa (next (with_due Due.go d) xs)
  unfolding fits next
  go_drafted h (s, c, b, n) f =
      let e = (go_says (grammar_of d) d.count d.gos xs f).0 in
      let q = some_less d.left_gos b in
      let k : length xs ≡ 2 = ap (λ (y : List ℕ). length y) e in
      let t : p + 3 ≡ p + 1 + length xs = omega arith in
      let more = go_more ns p sa d.states d.items d.gos d.left_items (less d.left_gos) (go_of xs)
      (subst (InState ns p sa d.states d.items d.gos d.left_items) (sym q) s) (line_go ns p (go_of xs) (subst (LineAt ns p) e a)) in
      record {
        rules_at = subst (RulesAt ns ra) (sym (settled-rules (grammar_of d) d.count d.left_states d.left_items (less d.left_gos) d.items (d.gos ++ (go_of xs ∷ [])) d.states)) h;
        stands = settled-stands ns (p + 1 + length xs) sa (grammar_of d) d.count d.left_states d.left_items (less d.left_gos) d.items
            (d.gos ++ (go_of xs ∷ [])) d.states
            (subst (λ y. InState ns y sa d.states d.items (d.gos ++ (go_of xs ∷ [])) d.left_items (less d.left_gos)) t more) (λ i. impossible (omega arith)) c;
      }

-- a line that fits is taken in, whichever is due
step_drafted : (w : Due) (ns : List ℕ) (p : ℕ) (ra sa xs : List ℕ) (d : Draft) → LineAt ns p xs → Drafted ns p ra sa (with_due w d) →
    Bounded (with_due w d) → length ra ≡ max_rules → length sa ≡ max_states → fits (with_due w d) xs ≡ true →
    Drafted ns (p + 1 + length xs) (rules_with (shape_of (with_due w d)) ra p) (states_with (shape_of (with_due w d)) sa p) (next (with_due w d) xs)
unfolding fits next rules_with states_with
step_drafted Due.terms ns p ra sa xs d a h b r s f = record { rules_at = λ k l. impossible (omega arith); stands = tt }
step_drafted Due.nonterms ns p ra sa xs d a h b r s f = record { rules_at = λ k l. impossible (omega arith); stands = tt }
step_drafted Due.rules ns p ra sa xs d a h b r s f = record { rules_at = λ k l. impossible (omega arith); stands = tt }
step_drafted Due.rule ns p ra sa xs d a h b r s f =
    let k = b.rule_left refl in let l = b.rules_in in rule-drafted ns p ra sa xs d a h.rules_at (omega arith) f
step_drafted Due.states ns p ra sa xs d a h b r s f = states-drafted ns p ra sa xs d a h.rules_at f
step_drafted Due.state ns p ra sa xs d a h b r s f =
    let (m, c, l) = h.stands in
    let k = b.states_in in
    let e : length d.states ≡ d.count - d.left_states = omega arith in
    subst (λ j. Drafted ns (p + 1 + length xs) ra (set sa j p) (next (with_due Due.state d) xs)) e
    (state-drafted ns p ra sa xs d a h.rules_at h.stands (omega arith) f)
step_drafted Due.item ns p ra sa xs d a h b r s f = item-drafted ns p ra sa xs d a h.rules_at h.stands f
step_drafted Due.go ns p ra sa xs d a h b r s f = go_drafted ns p ra sa xs d a h.rules_at h.stands f
step_drafted Due.end ns p ra sa xs d a h b r s f = absurd (false≢true f)

-- a line that fits is taken in
pub next-drafted : (ns : List ℕ) (p : ℕ) (ra sa xs : List ℕ) (d : Draft) → LineAt ns p xs → Drafted ns p ra sa d → Bounded d →
    length ra ≡ max_rules → length sa ≡ max_states → fits d xs ≡ true →
    Drafted ns (p + 1 + length xs) (rules_with (shape_of d) ra p) (states_with (shape_of d) sa p) (next d xs)
next-drafted ns p ra sa xs d = step_drafted d.due ns p ra sa xs d
