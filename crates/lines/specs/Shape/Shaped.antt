-- A shape, with the lengths beside it, stands for a draft of the automaton: at the start, and after every line.
-- What a loop over lines cites: `start-shaped`, `step_next`, `step_unfit`, `due-same`.
use Rattle.std.specs.Prelude.{ℕ, zero, suc, ◌<◌, ◌≡◌, refl, Bool, true, false, ◌&&◌, List, [], ◌∷◌, ◌++◌, length, take, set, ltb, leb, Some, None}
use Rattle.std.proofs.Common.{arith, sym, ap, ◌∙◌, subst, length-set, length-append, take-suc-set, lt-ltb}
use Rattle.std.proofs.Math.Bool.{and-true}
use Rattle.std.proofs.Math.Option.{none, some}
use Rattle.std.proofs.Math.Dec.{leb-zero}
use Rattle.theory.proofs.Basics.{both}
use Rattle.theory.specs.Grammar.{Rule as GrammarRule}
use Rattle.theory.specs.Table.{Item as TableItem, Go as TableGo}
use Rattle.lines.specs.Limits.{max_rules}
use Rattle.lines.specs.Lines.{Draft, start, fits, next, accept, settled, less, while_left, grammar_of, rises, rises_from, at, fits_rule, fits_item, fits_go, rights, ons, rule_of, item_of, go_of}
use Rattle.lines.specs.Lines as L
use Rattle.lines.specs.Lines.Numbers.{accept-holds, accept-refuses}
use Rattle.lines.specs.Ranges.Tests.{rights-append, ons-append}
use Rattle.lines.specs.Ranges.Bounds.{Bounded, with_due, start-bounded, next-bounded}
use Rattle.lines.specs.Shape.{heading_shape, body_shape, start_shape, fits_due, fits_shape, settled_shape, due_while, next_shape, accepted, lengths_with, lengths_after}
use Rattle.lines.specs.Shape.Accepting.{fit_after, misfit_after, next_fit, unfit_misfit}
use Rattle.lines.specs.declared.shape.Due.{Due}
use Rattle.lines.specs.declared.shape.Due.TheVariants.{Terms, Nonterms, Rules, Rule, States, State, Item, Go, End}
use Rattle.lines.specs.declared.shape.Shape.{Shape}

-- ---- what a shape keeps of a draft

-- the automaton's name of the line that is due
abbrev pub due_of : Due → L.Due
due_of Terms = L.Due.terms
due_of Nonterms = L.Due.nonterms
due_of Rules = L.Due.rules
due_of Rule = L.Due.rule
due_of States = L.Due.states
due_of State = L.Due.state
due_of Item = L.Due.item
due_of Go = L.Due.go
due_of End = L.Due.end

-- the code's name of the line that is due
abbrev pub code_due : L.Due → Due
code_due L.Due.terms = Terms
code_due L.Due.nonterms = Nonterms
code_due L.Due.rules = Rules
code_due L.Due.rule = Rule
code_due L.Due.states = States
code_due L.Due.state = State
code_due L.Due.item = Item
code_due L.Due.go = Go
code_due L.Due.end = End

-- the least number above x and the members, which rise
unfoldable pub above_from : ℕ → List ℕ → ℕ
above_from x [] = suc x
above_from x (y ∷ ys) = above_from y ys

-- the least number that may come after the members, which rise
unfoldable pub above : List ℕ → ℕ
unfolding above_from
above [] = 0
above (x ∷ xs) = above_from x xs

-- what a shape keeps of a draft
abbrev pub shape_of : Draft → Shape
shape_of d = record {
  due = code_due d.due;
  terms = d.terms;
  nonterms = d.nonterms;
  rules = length d.rules;
  rules_left = d.left_rules;
  states = d.count;
  states_left = d.left_states;
  items_left = d.left_items;
  gos_left = d.left_gos;
  above = above (ons d.gos);
}

-- the shape and the lengths beside it stand for the draft
pub record Shaped (s : Shape) (ls : List ℕ) (d : Draft) : Type 0 where
  pub same : s ≡ shape_of d
  -- of each rule so far the length of its right side
  pub lengths : take (length d.rules) ls ≡ rights d.rules
  pub long : length ls ≡ max_rules
  pub bounded : Bounded d

-- ---- the line that is due

-- the two names of a line go with each other
pub due_there : (w : L.Due) → due_of (code_due w) ≡ w
due_there L.Due.terms = refl
due_there L.Due.nonterms = refl
due_there L.Due.rules = refl
due_there L.Due.rule = refl
due_there L.Due.states = refl
due_there L.Due.state = refl
due_there L.Due.item = refl
due_there L.Due.go = refl
due_there L.Due.end = refl

-- the line that is due to the shape is the one that is due to the draft
pub due-same : {s : Shape} {ls : List ℕ} {d : Draft} → Shaped s ls d → due_of s.due ≡ d.due
due-same {d = d} h = ap (λ (x : Shape). due_of x.due) h.same ∙ due_there d.due

-- what is due while some are left, under both names
while_same : (k : ℕ) (a b : L.Due) → due_while k (code_due a) (code_due b) ≡ code_due (while_left k a b)
while_same zero a b = refl
while_same (suc k) a b = refl

-- ---- the symbols of go lines

-- one more than the last, from x
above_from-more : (y : ℕ) (ys : List ℕ) (x : ℕ) → above_from y (ys ++ (x ∷ [])) ≡ suc x
unfolding above_from
above_from-more y [] x = refl
above_from-more y (z ∷ ys) x = above_from-more z ys x

-- one more than the last
above_more : (ys : List ℕ) (x : ℕ) → above (ys ++ (x ∷ [])) ≡ suc x
unfolding above
above_more [] x = refl
above_more (y ∷ ys) x = above_from-more y ys x

-- the same of a list that rises from y
may_from : (y : ℕ) (ys : List ℕ) (x : ℕ) → rises_from y ys ≡ true → leb (above_from y ys) x ≡ rises_from y (ys ++ (x ∷ []))
unfolding rises_from above_from
may_from y [] x u = sym (and-true (ltb y x))
may_from y (z ∷ ys) x u =
    let (p, q) = both (ltb y z) (rises_from z ys) u in
    rw p (may_from z ys x q)

-- a number may come after a rising list exactly if the list rises with it
may_same : (ys : List ℕ) (x : ℕ) → rises ys ≡ true → leb (above ys) x ≡ rises (ys ++ (x ∷ []))
unfolding rises above
may_same [] x u = leb-zero x
may_same (y ∷ ys) x u = may_from y ys x u

-- ---- the tests

-- there is a place for the length of a rule that is due
rule-place : (d : Draft) → Bounded d → d.due ≡ L.Due.rule → length d.rules < max_rules
rule-place d b e = let k = b.rule_left e in let r = b.rules_in in omega arith

-- the tests agree at each kind of line
fits-at : (w : L.Due) (d : Draft) (ls xs : List ℕ) → take (length d.rules) ls ≡ rights d.rules → Bounded (with_due w d) →
    fits_shape (shape_of (with_due w d)) ls xs ≡ fits (with_due w d) xs
unfolding fits_due fits fits_go
fits-at L.Due.terms d ls xs e b = refl
fits-at L.Due.nonterms d ls xs e b = refl
fits-at L.Due.rules d ls xs e b = refl
fits-at L.Due.rule d ls xs e b =
    ap (λ (x : Bool). x && fits_rule d.terms d.nonterms xs) (lt-ltb (length d.rules) max_rules (rule-place (with_due L.Due.rule d) b refl))
fits-at L.Due.states d ls xs e b = refl
fits-at L.Due.state d ls xs e b = refl
fits-at L.Due.item d ls xs e b = ap (λ (l : List ℕ). fits_item d.terms l xs) e
fits-at L.Due.go d ls xs e b = rw (may_same (ons d.gos) (at xs 0) b.gos_rise) refl
fits-at L.Due.end d ls xs e b = refl

-- a line fits the shape exactly if it fits the draft
pub fits-same : {s : Shape} {ls : List ℕ} {d : Draft} (xs : List ℕ) → Shaped s ls d → fits_shape s ls xs ≡ fits d xs
fits-same {s} {ls} {d} xs h = ap (λ (x : Shape). fits_shape x ls xs) h.same ∙ fits-at d.due d ls xs h.lengths h.bounded

-- ---- the next shape

-- after an item line or a go line
settled_same : (d : Draft) (i l : ℕ) (is : List TableItem) (gs : List TableGo) →
    settled_shape (shape_of d) i l (above (ons gs)) ≡ shape_of (settled (grammar_of d) d.count d.left_states i l is gs d.states)
unfolding settled_shape settled above
settled_same d zero zero is gs = λ k. body_shape (while_same d.left_states L.Due.state L.Due.end k) (shape_of d) d.count d.left_states 0 0 0
settled_same d zero (suc l) is gs = refl
settled_same d (suc i) l is gs = refl

-- as many rules and one more
more_rules : (rs : List GrammarRule) (r : GrammarRule) → suc (length rs) ≡ length (rs ++ (r ∷ []))
more_rules rs r = simp length-append (omega arith)

-- the next shape is that of the next draft, at each kind of line
next-at : (w : L.Due) (d : Draft) (xs : List ℕ) → next_shape (shape_of (with_due w d)) xs ≡ shape_of (next (with_due w d) xs)
unfolding next_shape next above
next-at L.Due.terms d xs = refl
next-at L.Due.nonterms d xs = refl
next-at L.Due.rules d xs = refl
next-at L.Due.rule d xs =
    let k = less d.left_rules in
    λ i. heading_shape (while_same k L.Due.rule L.Due.states i) d.terms d.nonterms (more_rules d.rules (rule_of xs) i) k
next-at L.Due.states d xs = refl
next-at L.Due.state d xs = refl
next-at L.Due.item d xs = settled_same (with_due L.Due.item d) (less d.left_items) d.left_gos (d.items ++ (item_of xs ∷ [])) d.gos
next-at L.Due.go d xs =
    ap (λ (a : ℕ). settled_shape (shape_of (with_due L.Due.go d)) d.left_items (less d.left_gos) a)
    (sym (above_more (ons d.gos) (at xs 0)) ∙ ap above (sym (ons-append d.gos (go_of xs ∷ [])))) ∙
    settled_same (with_due L.Due.go d) d.left_items (less d.left_gos) d.items (d.gos ++ (go_of xs ∷ []))
next-at L.Due.end d xs = refl

-- ---- the lengths

-- a line leaves their number as it is
with_long : (s : Shape) (ls xs : List ℕ) → length (lengths_with s ls xs) ≡ length ls
unfolding lengths_with
with_long s ls xs = go s.due refl
  where
    go : (w : Due) → s.due ≡ w → length (lengths_with s ls xs) ≡ length ls
    go Terms p = rw (p, lengths_with) refl
    go Nonterms p = rw (p, lengths_with) refl
    go Rules p = rw (p, lengths_with) refl
    go Rule p = rw (p, lengths_with) (length-set ls s.rules (less (length xs)))
    go States p = rw (p, lengths_with) refl
    go State p = rw (p, lengths_with) refl
    go Item p = rw (p, lengths_with) refl
    go Go p = rw (p, lengths_with) refl
    go End p = rw (p, lengths_with) refl

-- one less than all is how many come after the first
less-rest : (xs : List ℕ) → less (length xs) ≡ length (rule_of xs).right
less-rest [] = refl
less-rest (x ∷ xs) = refl

-- the lines of a state leave the rules as they are
settled-rules : (d : Draft) (i l : ℕ) (is : List TableItem) (gs : List TableGo) → (settled (grammar_of d) d.count d.left_states i l is gs d.states).rules ≡ d.rules
unfolding settled
settled-rules d zero zero is gs = refl
settled-rules d zero (suc l) is gs = refl
settled-rules d (suc i) l is gs = refl

-- the lengths of the rules, with that of one more
rule_lengths : (rs : List GrammarRule) (ls xs : List ℕ) → take (length rs) ls ≡ rights rs → length rs < length ls →
    take (length (rs ++ (rule_of xs ∷ []))) (set ls (length rs) (less (length xs))) ≡ rights (rs ++ (rule_of xs ∷ []))
rule_lengths rs ls xs e h =
    ap (λ (n : ℕ). take n (set ls (length rs) (less (length xs)))) (sym (more_rules rs (rule_of xs))) ∙
    take-suc-set ls (length rs) (less (length xs)) h ∙
    (λ i. e i ++ (less-rest xs i ∷ [])) ∙
    sym (rights-append rs (rule_of xs ∷ []))

-- the lengths stay those of the rules, at each kind of line
lengths_at : (w : L.Due) (d : Draft) (ls xs : List ℕ) → take (length d.rules) ls ≡ rights d.rules → length ls ≡ max_rules → Bounded (with_due w d) →
    take (length (next (with_due w d) xs).rules) (lengths_with (shape_of (with_due w d)) ls xs) ≡ rights (next (with_due w d) xs).rules
unfolding lengths_with next
lengths_at L.Due.terms d ls xs e h b = refl
lengths_at L.Due.nonterms d ls xs e h b = refl
lengths_at L.Due.rules d ls xs e h b = refl
lengths_at L.Due.rule d ls xs e h b = rule_lengths d.rules ls xs e (let k = rule-place (with_due L.Due.rule d) b refl in omega arith)
lengths_at L.Due.states d ls xs e h b = e
lengths_at L.Due.state d ls xs e h b = e
lengths_at L.Due.item d ls xs e h b =
    subst (λ (rs : List GrammarRule). take (length rs) ls ≡ rights rs)
    (sym (settled-rules (with_due L.Due.item d) (less d.left_items) d.left_gos (d.items ++ (item_of xs ∷ [])) d.gos)) e
lengths_at L.Due.go d ls xs e h b =
    subst (λ (rs : List GrammarRule). take (length rs) ls ≡ rights rs)
    (sym (settled-rules (with_due L.Due.go d) d.left_items (less d.left_gos) d.items (d.gos ++ (go_of xs ∷ [])))) e
lengths_at L.Due.end d ls xs e h b = e

-- ---- the laws that loops cite

-- at the start, whatever the lengths are
pub start-shaped : (ls : List ℕ) → length ls ≡ max_rules → Shaped start_shape ls start
unfolding above
start-shaped ls h = record { same = refl; lengths = refl; long = h; bounded = start-bounded }

-- a line that is accepted fits the draft, and the next shape stands for the next draft
pub step_next : {s : Shape} {ls : List ℕ} {d : Draft} (xs : List ℕ) {s' : Shape} → Shaped s ls d → accepted s ls xs ≡ Some s' →
    (fits d xs ≡ true) × (accept d xs ≡ some (next d xs)) × Shaped s' (lengths_after s ls xs) (next d xs)
step_next {s} {ls} {d} xs {s'} h e =
    let (f, g) = next_fit s ls xs s' e in
    let p : fits d xs ≡ true = sym (fits-same xs h) ∙ f in
    let k : lengths_after s ls xs ≡ lengths_with (shape_of d) ls xs = fit_after s ls xs f ∙ ap (λ (x : Shape). lengths_with x ls xs) h.same in (
      p,
      accept-holds d xs p,
      record {
        same = sym g ∙ ap (λ (x : Shape). next_shape x xs) h.same ∙ next-at d.due d xs;
        lengths = ap (λ (l : List ℕ). take (length (next d xs).rules) l) k ∙ lengths_at d.due d ls xs h.lengths h.long h.bounded;
        long = ap (λ (l : List ℕ). length l) k ∙ with_long (shape_of d) ls xs ∙ h.long;
        bounded = next-bounded d xs h.bounded p;
      },
    )

-- a line that is unfit does not fit the draft, and leaves the lengths
pub step_unfit : {s : Shape} {ls : List ℕ} {d : Draft} (xs : List ℕ) → Shaped s ls d → accepted s ls xs ≡ None →
    (fits d xs ≡ false) × (accept d xs ≡ none) × (lengths_after s ls xs ≡ ls)
step_unfit {s} {ls} {d} xs h e =
    let f = unfit_misfit s ls xs e in
    let p : fits d xs ≡ false = sym (fits-same xs h) ∙ f in
    (p, accept-refuses d xs p, misfit_after s ls xs f)
