-- The lines that run from the start are exactly the lines of the tables within the ranges.
use Rattle.std.specs.Prelude.{ℕ, zero, suc, ◌≡◌, refl, true, false, List, [], ◌∷◌, ◌++◌, map, length}
use Rattle.std.proofs.Common.{arith, sym, ap, ◌∙◌, subst, true≢false, append_assoc}
use Rattle.std.proofs.lemmas.Bool.{false≢true}
use Rattle.theory.specs.Grammar.{Rule, Grammar}
use Rattle.theory.specs.Table.{Item, Go, State, Table}
use Rattle.lines.specs.Limits.{max_terms, max_nonterms, max_rules, max_states, max_items, max_gos}
use Rattle.lines.specs.Lines.{Due, Draft, heading, body, start, settled, while_left, is_end, fits, next, Runs, ends, takes, rule_of, item_of, go_of, ons}
use Rattle.lines.specs.Ranges.{Within, Rising, RisingFrom, RuleIn, ItemIn, GoIn, StateIn, InRange, rule_line, item_line, go_line, state_first, state_lines, lines_of, finished}
use Rattle.lines.specs.Ranges.Tests.{one_says, within-holds, rule_says, rule_holds, state_says, state_holds, item_says, item_holds, go_says, go_holds, ons-append}
use Rattle.lines.specs.Basics.{impossible, All, all_nil, all_cons, all_head, all_tail}

-- ---- rules

-- what the ranges say of a rule does not look at the other rules
other_rules : (t n : ℕ) (rs rs' : List Rule) (r : Rule) → RuleIn (record { terms = t; nonterms = n; rules = rs }) r → RuleIn (record { terms = t; nonterms = n; rules = rs' }) r
other_rules t n rs rs' r h = record { left_in = h.left_in; right_count = h.right_count; right_in = h.right_in }

-- ---- from runs to tables

-- where a line is due, one is taken
took : (d : Draft) {e : Draft} {ls : List (List ℕ)} → Runs d ls e → is_end d.due ≡ false →
    (l : List ℕ) × (rest : List (List ℕ)) × (ls ≡ l ∷ rest) × (fits d l ≡ true) × Runs (next d l) rest e
took d (ends p) q = absurd (true≢false (sym p ∙ q))
took d (takes {l = l} {ls = ls} p r) q = (l, ls, refl, p, r)

-- where none is due, none is taken
over : (g : Grammar) (m : ℕ) (ss : List State) {e : Draft} {ls : List (List ℕ)} → Runs (body Due.end g m 0 0 0 [] [] ss) ls e →
    (ls ≡ []) × (e ≡ body Due.end g m 0 0 0 [] [] ss)
unfolding fits
over g m ss (ends p) = (refl, refl)
over g m ss (takes p r) = absurd (false≢true p)

-- the rule lines that are left are those of rules within the ranges
rules-run : (t n k : ℕ) (rs : List Rule) {e : Draft} {ls : List (List ℕ)} → Runs (heading Due.rule t n (suc k) rs) ls e →
    (more : List Rule) × (rest : List (List ℕ)) × (ls ≡ map rule_line more ++ rest) × (length more ≡ suc k) ×
    All (RuleIn (record { terms = t; nonterms = n; rules = [] })) more × Runs (heading Due.states t n 0 (rs ++ more)) rest e
unfolding fits next is_end
rules-run t n zero rs run =
    let (l, rest, p, f, r) = took (heading Due.rule t n 1 rs) run refl in
    let (q, i) = rule_says (record { terms = t; nonterms = n; rules = rs }) l f in
    (rule_of l ∷ [], rest, p ∙ ap (λ (x : List ℕ). x ∷ rest) q, refl, all_cons (RuleIn _) (other_rules t n rs [] (rule_of l) i) (all_nil (RuleIn _)), r)
rules-run t n (suc k) rs {e} run =
    let (l, rest, p, f, r) = took (heading Due.rule t n (suc (suc k)) rs) run refl in
    let (q, i) = rule_says (record { terms = t; nonterms = n; rules = rs }) l f in
    let (more, rest', s, c, a, r') = rules-run t n k (rs ++ (rule_of l ∷ [])) r in (
      rule_of l ∷ more,
      rest',
      p ∙ (λ j. q j ∷ s j),
      ap suc c,
      all_cons (RuleIn _) (other_rules t n rs [] (rule_of l) i) a,
      subst (λ x. Runs (heading Due.states t n 0 x) rest' e) (append_assoc rs (rule_of l ∷ []) more) r',
    )

-- a state's item lines that are left are those of items within the ranges
items_run : (g : Grammar) (m j i l : ℕ) (is : List Item) (ss : List State) {e : Draft} {ls : List (List ℕ)} → Runs (body Due.item g m j (suc i) l is [] ss) ls e →
    (more : List Item) × (rest : List (List ℕ)) × (ls ≡ map item_line more ++ rest) × (length more ≡ suc i) ×
    All (ItemIn g) more × Runs (settled g m j 0 l (is ++ more) [] ss) rest e
unfolding fits next is_end
items_run g m j zero l is ss run =
    let (x, rest, p, f, r) = took (body Due.item g m j 1 l is [] ss) run refl in
    let (q, h) = item_says g x f in
    (item_of x ∷ [], rest, p ∙ ap (λ (y : List ℕ). y ∷ rest) q, refl, all_cons (ItemIn g) h (all_nil (ItemIn g)), r)
items_run g m j (suc i) l is ss {e} run =
    let (x, rest, p, f, r) = took (body Due.item g m j (suc (suc i)) l is [] ss) run refl in
    let (q, h) = item_says g x f in
    let (more, rest', s, c, a, r') = items_run g m j i l (is ++ (item_of x ∷ [])) ss r in (
      item_of x ∷ more,
      rest',
      p ∙ (λ j. q j ∷ s j),
      ap suc c,
      all_cons (ItemIn g) h a,
      subst (λ y. Runs (settled g m j 0 l y [] ss) rest' e) (append_assoc is (item_of x ∷ []) more) r',
    )

-- a state's go lines that are left are those of go lines within the ranges, which rise
gos_run : (g : Grammar) (m j l : ℕ) (is : List Item) (gs : List Go) (ss : List State) {e : Draft} {ls : List (List ℕ)} → Runs (body Due.go g m j 0 (suc l) is gs ss) ls e →
    (more : List Go) × (rest : List (List ℕ)) × (ls ≡ map go_line more ++ rest) × (length more ≡ suc l) ×
    All (GoIn g m) more × Rising (ons (gs ++ more)) × Runs (settled g m j 0 0 is (gs ++ more) ss) rest e
unfolding fits next is_end
gos_run g m j zero is gs ss run =
    let (x, rest, p, f, r) = took (body Due.go g m j 0 1 is gs ss) run refl in
    let (q, h, u) = go_says g m gs x f in
    (go_of x ∷ [], rest, p ∙ ap (λ (y : List ℕ). y ∷ rest) q, refl, all_cons (GoIn g m) h (all_nil (GoIn g m)), rw (ons-append gs (go_of x ∷ [])) u, r)
gos_run g m j (suc l) is gs ss {e} run =
    let (x, rest, p, f, r) = took (body Due.go g m j 0 (suc (suc l)) is gs ss) run refl in
    let (q, h, u) = go_says g m gs x f in
    let (more, rest', s, c, a, v, r') = gos_run g m j l is (gs ++ (go_of x ∷ [])) ss r in
    let z = append_assoc gs (go_of x ∷ []) more in (
      go_of x ∷ more,
      rest',
      p ∙ (λ j. q j ∷ s j),
      ap suc c,
      all_cons (GoIn g m) h a,
      subst (λ y. Rising (ons y)) z v,
      subst (λ y. Runs (settled g m j 0 0 is y ss) rest' e) z r',
    )

-- the lines of a state after its first
inner_run : (g : Grammar) (m j k l : ℕ) (ss : List State) {e : Draft} {ls : List (List ℕ)} → Within 1 max_items k → Within 0 max_gos l →
    Runs (body Due.item g m j k l [] [] ss) ls e →
    (s : State) × (rest : List (List ℕ)) × (ls ≡ map item_line s.items ++ (map go_line s.gos ++ rest)) × (length s.items ≡ k) ×
    (length s.gos ≡ l) × StateIn g m s × Runs (body (while_left j Due.state Due.end) g m j 0 0 [] [] (ss ++ (s ∷ []))) rest e
unfolding settled
inner_run g m j zero l ss wk wl run = impossible (omega arith)
inner_run g m j (suc k) zero ss wk wl run =
    let (is, rest, p, c, a, r) = items_run g m j k 0 [] ss run in (
      record { items = is; gos = [] },
      rest,
      p,
      c,
      refl,
      record { item_count = rw c wk; go_count = wl; items_in = a; gos_in = all_nil (GoIn g m); gos_rise = tt },
      r,
    )
inner_run g m j (suc k) (suc l) ss wk wl run =
    let (is, rest, p, c, a, r) = items_run g m j k (suc l) [] ss run in
    let (gs, rest', p', c', a', u, r') = gos_run g m j l is [] ss r in (
      record { items = is; gos = gs },
      rest',
      p ∙ ap (λ (x : List (List ℕ)). map item_line is ++ x) p',
      c,
      c',
      record { item_count = rw c wk; go_count = rw c' wl; items_in = a; gos_in = a'; gos_rise = u },
      r',
    )

-- a state's first line, and what its other lines gave
state_lines_law : (s : State) (rest : List (List ℕ)) {k l : ℕ} {x : List ℕ} {ls : List (List ℕ)} → x ≡ k ∷ l ∷ [] → length s.items ≡ k → length s.gos ≡ l →
    ls ≡ map item_line s.items ++ (map go_line s.gos ++ rest) → x ∷ ls ≡ state_first s ∷ (map item_line s.items ++ (map go_line s.gos ++ rest))
state_lines_law s rest q c d u = λ i. (q ∙ (λ j. sym c j ∷ sym d j ∷ [])) i ∷ u i

-- the lines of one state
state-run : (g : Grammar) (m j : ℕ) (ss : List State) {e : Draft} {ls : List (List ℕ)} → Runs (body Due.state g m (suc j) 0 0 [] [] ss) ls e →
    (s : State) × (rest : List (List ℕ)) × (ls ≡ state_first s ∷ (map item_line s.items ++ (map go_line s.gos ++ rest))) ×
    StateIn g m s × Runs (body (while_left j Due.state Due.end) g m j 0 0 [] [] (ss ++ (s ∷ []))) rest e
unfolding fits next is_end
state-run g m j ss (ends p) = absurd (false≢true p)
state-run g m j ss {e} (takes {l = x} {ls = ls} f r) =
    let (k, l, q, wk, wl) = state_says x f in
    let (s, rest, u, c, d, h, r') = inner_run g m j k l ss wk wl (subst (λ y. Runs (next (body Due.state g m (suc j) 0 0 [] [] ss) y) ls e) q r) in
    (s, rest, state_lines_law s rest q c d u, h, r')

-- the lines of one state more
one_state : (s : State) (more : List State) {ls rest : List (List ℕ)} → ls ≡ state_first s ∷ (map item_line s.items ++ (map go_line s.gos ++ rest)) →
    rest ≡ state_lines more → ls ≡ state_lines (s ∷ more)
one_state s more p q = p ∙ ap (λ (x : List (List ℕ)). state_first s ∷ (map item_line s.items ++ (map go_line s.gos ++ x))) q

-- the lines of all states that are left
states_run : (g : Grammar) (m j : ℕ) (ss : List State) {e : Draft} {ls : List (List ℕ)} → Runs (body Due.state g m (suc j) 0 0 [] [] ss) ls e →
    (more : List State) × (ls ≡ state_lines more) × (length more ≡ suc j) × All (StateIn g m) more × (e ≡ body Due.end g m 0 0 0 [] [] (ss ++ more))
states_run g m zero ss run =
    let (s, rest, p, h, r) = state-run g m 0 ss run in
    let (q, u) = over g m (ss ++ (s ∷ [])) r in
    (s ∷ [], one_state s [] p q, refl, all_cons (StateIn g m) h (all_nil (StateIn g m)), u)
states_run g m (suc j) ss run =
    let (s, rest, p, h, r) = state-run g m (suc j) ss run in
    let (more, q, c, a, u) = states_run g m j (ss ++ (s ∷ [])) r in (
      s ∷ more,
      one_state s more p q,
      ap suc c,
      all_cons (StateIn g m) h a,
      u ∙ ap (λ (x : List State). body Due.end g m 0 0 0 [] [] x) (append_assoc ss (s ∷ []) more),
    )

-- the lines are those of a table within the ranges, and the draft is that table's
abbrev Ends : List (List ℕ) → Draft → Type 0
Ends ls e = (x : Table) × (ls ≡ lines_of x) × InRange x × (e ≡ finished x)

-- more is known of the first lines
ends_by : {ls ls' : List (List ℕ)} {e : Draft} → ls ≡ ls' → Ends ls' e → Ends ls e
ends_by p (x, u, h, v) = (x, p ∙ u, h, v)

-- a line of one number is taken
took_one : (d : Draft) (lo hi : ℕ) {e : Draft} {ls : List (List ℕ)} → is_end d.due ≡ false →
    ((l : List ℕ) → fits d l ≡ true → (n : ℕ) × (l ≡ n ∷ []) × Within lo hi n) → Runs d ls e →
    (n : ℕ) × (rest : List (List ℕ)) × (ls ≡ (n ∷ []) ∷ rest) × Within lo hi n × Runs (next d (n ∷ [])) rest e
took_one d lo hi q says (ends p) = absurd (true≢false (sym p ∙ q))
took_one d lo hi {e} q says (takes {l = l} {ls = ls} f r) =
    let (n, p, w) = says l f in
    (n, ls, ap (λ (x : List ℕ). x ∷ ls) p, w, subst (λ x. Runs (next d x) ls e) p r)

-- after the rules: m and the states
from_states : (t n m : ℕ) (rs : List Rule) (j : ℕ) {e : Draft} {ls : List (List ℕ)} → Within 1 max_terms t → Within 1 max_nonterms n →
    Within 1 max_rules (length rs) → All (RuleIn (record { terms = t; nonterms = n; rules = [] })) rs → Within 1 max_states j → m ≡ j →
    Runs (body Due.state (record { terms = t; nonterms = n; rules = rs }) m j 0 0 [] [] []) ls e →
    Ends ((t ∷ []) ∷ (n ∷ []) ∷ (length rs ∷ []) ∷ (map rule_line rs ++ ((m ∷ []) ∷ ls))) e
from_states t n m rs zero wt wn wk a wm z run = impossible (omega arith)
from_states t n m rs (suc j) wt wn wk a wm z run =
    let g : Grammar = record { terms = t; nonterms = n; rules = rs } in
    let (ss, s, d, h, u) = states_run g m j [] run in
    let c : m ≡ length ss = z ∙ sym d in (
      record { grammar = g; states = ss },
      (λ i. (t ∷ []) ∷ (n ∷ []) ∷ (length rs ∷ []) ∷ (map rule_line rs ++ ((c i ∷ []) ∷ s i))),
      record {
        term_count = wt;
        nonterm_count = wn;
        rule_count = wk;
        state_count = rw d wm;
        rules_in = λ r i. other_rules t n [] rs r (a r i);
        states_in = rw (← c) h;
      },
      u ∙ ap (λ (x : ℕ). body Due.end g x 0 0 0 [] [] ss) c,
    )

-- after rules=R, of which there are k
from_rules : (t n k : ℕ) {e : Draft} {ls : List (List ℕ)} → Within 1 max_terms t → Within 1 max_nonterms n → Within 1 max_rules k →
    Runs (heading Due.rule t n k []) ls e → Ends ((t ∷ []) ∷ (n ∷ []) ∷ (k ∷ []) ∷ ls) e
unfolding fits next is_end
from_rules t n zero wt wn wk run = impossible (omega arith)
from_rules t n (suc k) wt wn wk run =
    let (rs, rest, p, c, a, r) = rules-run t n k [] run in
    let (m, rest', q, wm, r') = took_one (heading Due.states t n 0 rs) 1 max_states refl (one_says 1 max_states) r in
    ends_by (λ i. (t ∷ []) ∷ (n ∷ []) ∷ (sym c i ∷ []) ∷ (p ∙ ap (λ (x : List (List ℕ)). map rule_line rs ++ x) q) i)
    (from_states t n m rs m wt wn (rw c wk) a wm refl r')

-- after nonterms=N
from_nonterms : (t n : ℕ) {e : Draft} {ls : List (List ℕ)} → Within 1 max_terms t → Within 1 max_nonterms n →
    Runs (heading Due.rules t n 0 []) ls e → Ends ((t ∷ []) ∷ (n ∷ []) ∷ ls) e
unfolding fits next is_end
from_nonterms t n wt wn run =
    let (k, rest, p, w, r) = took_one (heading Due.rules t n 0 []) 1 max_rules refl (one_says 1 max_rules) run in
    ends_by (ap (λ (x : List (List ℕ)). (t ∷ []) ∷ (n ∷ []) ∷ x) p) (from_rules t n k wt wn w r)

-- after terms=T
from_terms : (t : ℕ) {e : Draft} {ls : List (List ℕ)} → Within 1 max_terms t → Runs (heading Due.nonterms t 0 0 []) ls e → Ends ((t ∷ []) ∷ ls) e
unfolding fits next is_end
from_terms t wt run =
    let (n, rest, p, w, r) = took_one (heading Due.nonterms t 0 0 []) 1 max_nonterms refl (one_says 1 max_nonterms) run in
    ends_by (ap (λ (x : List (List ℕ)). (t ∷ []) ∷ x) p) (from_nonterms t n wt w r)

-- lines that run from the start are those of a table within the ranges
pub run_table : {e : Draft} {ls : List (List ℕ)} → Runs start ls e → (t : Table) × (ls ≡ lines_of t) × InRange t × (e ≡ finished t)
unfolding fits next is_end
run_table run =
    let (t, rest, p, w, r) = took_one start 1 max_terms refl (one_says 1 max_terms) run in
    ends_by p (from_terms t w r)

-- ---- from tables to runs

-- the front of a list that rises from x does
rising_from_front : (x : ℕ) (xs ys : List ℕ) → RisingFrom x (xs ++ ys) → RisingFrom x xs
rising_from_front x [] ys h = tt
rising_from_front x (y ∷ xs) ys h = (h.0, rising_from_front y xs ys h.1)

-- the front of a rising list rises
rising_front : (xs ys : List ℕ) → Rising (xs ++ ys) → Rising xs
rising_front [] ys h = tt
rising_front (x ∷ xs) ys h = rising_from_front x xs ys h

-- the lines of rules run
table_rules : (t n : ℕ) (rs : List Rule) (r : Rule) (more : List Rule) {e : Draft} {rest : List (List ℕ)} →
    All (RuleIn (record { terms = t; nonterms = n; rules = [] })) (r ∷ more) → Runs (heading Due.states t n 0 (rs ++ (r ∷ more))) rest e →
    Runs (heading Due.rule t n (suc (length more)) rs) (map rule_line (r ∷ more) ++ rest) e
unfolding fits next
table_rules t n rs r [] a run = takes (rule_holds _ r (other_rules t n [] rs r (all_head (RuleIn _) a))) run
table_rules t n rs r (r' ∷ more) {e} {rest} a run =
    takes (rule_holds _ r (other_rules t n [] rs r (all_head (RuleIn _) a)))
    (table_rules t n (rs ++ (r ∷ [])) r' more (all_tail (RuleIn _) a)
    (subst (λ x. Runs (heading Due.states t n 0 x) rest e) (sym (append_assoc rs (r ∷ []) (r' ∷ more))) run))

-- the lines of a state's items run
table_items : (g : Grammar) (m j l : ℕ) (is : List Item) (i : Item) (more : List Item) (ss : List State) {e : Draft} {rest : List (List ℕ)} →
    All (ItemIn g) (i ∷ more) → Runs (settled g m j 0 l (is ++ (i ∷ more)) [] ss) rest e →
    Runs (body Due.item g m j (suc (length more)) l is [] ss) (map item_line (i ∷ more) ++ rest) e
unfolding fits next
table_items g m j l is i [] ss a run = takes (item_holds g i (all_head (ItemIn g) a)) run
table_items g m j l is i (i' ∷ more) ss {e} {rest} a run =
    takes (item_holds g i (all_head (ItemIn g) a))
    (table_items g m j l (is ++ (i ∷ [])) i' more ss (all_tail (ItemIn g) a)
    (subst (λ x. Runs (settled g m j 0 l x [] ss) rest e) (sym (append_assoc is (i ∷ []) (i' ∷ more))) run))

-- the go lines so far and the next one rise, as all of them do
go_rises : (gs : List Go) (l : Go) (more : List Go) → Rising (ons (gs ++ (l ∷ more))) → Rising (ons gs ++ (l.on ∷ []))
go_rises gs l more u =
    rising_front (ons gs ++ (l.on ∷ [])) (ons more)
    (subst (λ x. Rising x) (ons-append gs (l ∷ more) ∙ sym (append_assoc (ons gs) (l.on ∷ []) (ons more))) u)

-- the lines of a state's go lines run
table_gos : (g : Grammar) (m j : ℕ) (is : List Item) (gs : List Go) (l : Go) (more : List Go) (ss : List State) {e : Draft} {rest : List (List ℕ)} →
    All (GoIn g m) (l ∷ more) → Rising (ons (gs ++ (l ∷ more))) → Runs (settled g m j 0 0 is (gs ++ (l ∷ more)) ss) rest e →
    Runs (body Due.go g m j 0 (suc (length more)) is gs ss) (map go_line (l ∷ more) ++ rest) e
unfolding fits next
table_gos g m j is gs l [] ss a u run = takes (go_holds g m gs l (all_head (GoIn g m) a) (go_rises gs l [] u)) run
table_gos g m j is gs l (l' ∷ more) ss {e} {rest} a u run =
    let z = sym (append_assoc gs (l ∷ []) (l' ∷ more)) in
    takes (go_holds g m gs l (all_head (GoIn g m) a) (go_rises gs l (l' ∷ more) u))
    (table_gos g m j is (gs ++ (l ∷ [])) l' more ss (all_tail (GoIn g m) a) (subst (λ x. Rising (ons x)) z u)
    (subst (λ x. Runs (settled g m j 0 0 is x ss) rest e) z run))

-- the lines of a state after its first
table_inner : (g : Grammar) (m j : ℕ) (is : List Item) (gs : List Go) (ss : List State) {e : Draft} {rest : List (List ℕ)} →
    StateIn g m (record { items = is; gos = gs }) →
    Runs (body (while_left j Due.state Due.end) g m j 0 0 [] [] (ss ++ (record { items = is; gos = gs } ∷ []))) rest e →
    Runs (body Due.item g m j (length is) (length gs) [] [] ss) (map item_line is ++ (map go_line gs ++ rest)) e
unfolding settled
table_inner g m j [] gs ss h run = let w = h.item_count in impossible (omega arith)
table_inner g m j (i ∷ is) [] ss h run = table_items g m j 0 [] i is ss h.items_in run
table_inner g m j (i ∷ is) (l ∷ gs) ss h run =
    table_items g m j (suc (length gs)) [] i is ss h.items_in (table_gos g m j (i ∷ is) [] l gs ss h.gos_in h.gos_rise run)

-- the lines of states run
table_states : (g : Grammar) (m : ℕ) (ss : List State) (s : State) (more : List State) → All (StateIn g m) (s ∷ more) →
    Runs (body Due.state g m (suc (length more)) 0 0 [] [] ss) (state_lines (s ∷ more)) (body Due.end g m 0 0 0 [] [] (ss ++ (s ∷ more)))
unfolding fits next is_end
table_states g m ss s [] a =
    let h = all_head (StateIn g m) a in
    takes (state_holds (length s.items) (length s.gos) h.item_count h.go_count) (table_inner g m 0 s.items s.gos ss h (ends refl))
table_states g m ss s (s' ∷ more) a =
    let h = all_head (StateIn g m) a in
    takes (state_holds (length s.items) (length s.gos) h.item_count h.go_count)
    (table_inner g m (suc (length more)) s.items s.gos ss h
    (subst (λ x. Runs (body Due.state g m (suc (length more)) 0 0 [] [] (ss ++ (s ∷ []))) (state_lines (s' ∷ more)) (body Due.end g m 0 0 0 [] [] x))
    (append_assoc ss (s ∷ []) (s' ∷ more)) (table_states g m (ss ++ (s ∷ [])) s' more (all_tail (StateIn g m) a))))

-- rules and states are some
table_some : (t n : ℕ) (rs : List Rule) (ss : List State) → InRange (record { grammar = record { terms = t; nonterms = n; rules = rs }; states = ss }) →
    Runs (heading Due.rule t n (length rs) []) (map rule_line rs ++ ((length ss ∷ []) ∷ state_lines ss))
    (finished (record { grammar = record { terms = t; nonterms = n; rules = rs }; states = ss }))
unfolding fits next
table_some t n [] ss h = let w = h.rule_count in impossible (omega arith)
table_some t n (r ∷ rs) [] h = let w = h.state_count in impossible (omega arith)
table_some t n (r ∷ rs) (s ∷ ss) h =
    table_rules t n [] r rs (λ x i. other_rules t n (r ∷ rs) [] x (h.rules_in x i))
    (takes (within-holds 1 max_states (length (s ∷ ss)) h.state_count) (table_states (record { terms = t; nonterms = n; rules = r ∷ rs }) (length (s ∷ ss)) [] s ss h.states_in))

-- the lines of a table within the ranges run from the start
pub table_run : (t : Table) → InRange t → Runs start (lines_of t) (finished t)
unfolding fits next
table_run t h =
    takes (within-holds 1 max_terms t.grammar.terms h.term_count)
    (takes (within-holds 1 max_nonterms t.grammar.nonterms h.nonterm_count)
    (takes (within-holds 1 max_rules (length t.grammar.rules) h.rule_count)
    (table_some t.grammar.terms t.grammar.nonterms t.grammar.rules t.states h)))
