-- Laws of what is known while the lines of a table are read: at the start, after a line that fits, and where the reading ends.
use Rattle.std.specs.Prelude.{Some, None}
use Prim.Native.Nat.{ℕ, suc, ◌+◌, ◌-◌, ◌≤◌, ◌<◌}
use native.Mathlib.Omega.{arith}
use mathlib.Core.Path.{◌≡◌, refl, sym, ap, ◌∙◌, subst}
use mathlib.Core.Bool.{true, false}
use mathlib.Core.List.{List, [], ◌∷◌}
use lib.ListN.{length, get_or, take, drop, length-drop, length-set, drop_of_length-le}
use lib.Seq.{drop-cons, drop-drop, length-take-le}
use borrow.Author.Tests.{le-leb, lt-leb}
use Rattle.theory.specs.Table.{Table}
use Rattle.lines.specs.Limits.{max_rules, max_states, max_numbers}
use Rattle.lines.specs.Lines as L
use Rattle.lines.specs.Lines.{Draft, start, is_end, Lined, lines_at, read_numbers, table_of}
use Rattle.lines.specs.Lines.Steps.{at_end, at_missing, at_short, at_unfit, at_fit}
use Rattle.lines.specs.Ranges.{InRange, finished}
use Rattle.lines.specs.Ranges.Fitting.{read_fits}
use Rattle.lines.specs.Shape.{start_shape, accepted, lengths_after}
use Rattle.lines.specs.Shape.Shaped.{due_of, start-shaped, step_next, step_unfit, due-same}
use Rattle.lines.specs.declared.shape.Due.{Due}
use Rattle.lines.specs.declared.shape.Due.TheVariants.{Terms, Nonterms, Rules, Rule, States, State, Item, Go, End}
use Rattle.lines.specs.declared.shape.Shape.{Shape}
use Rattle.table.specs.Places.{LineAt, found, table_in, RulesAt, StatesTo, StatesAt}
use Rattle.table.specs.Lined.{rules_with, states_with, Notable, Fine}
use Rattle.table.specs.Walk.{Stands, Drafted, Walked}
use Rattle.table.proofs.Reading.{line_at}
use Rattle.table.proofs.Drafted.{start-drafted, next-drafted}

-- numbers that are not too many are read from the start
read_from : (ns : List ℕ) → length ns ≤ max_numbers → read_numbers ns ≡ lines_at 0 start ns
unfolding read_numbers
read_from ns h = rw (le-leb (length ns) max_numbers h, read_numbers) refl

-- too many numbers
pub read_over : (ns : List ℕ) → max_numbers < length ns → read_numbers ns ≡ Lined.over
unfolding read_numbers
read_over ns h = rw (lt-leb (length ns) max_numbers h, read_numbers) refl

-- the table of the numbers is that of the draft
pub table_of_law : (ns : List ℕ) (d : Draft) → read_numbers ns ≡ Lined.fine d → table_in ns ≡ table_of d
unfolding table_in
table_of_law ns d e = ap found e

-- no line is due at the end
end_is : is_end L.Due.end ≡ true
unfolding is_end
end_is = refl

-- ---- places

-- a line leaves the number of places as it is
rules_length : (s : Shape) (ra : List ℕ) (p : ℕ) → length (rules_with s ra p) ≡ length ra
unfolding rules_with
rules_length s ra p = go s.due refl
  where
    go : (w : Due) → s.due ≡ w → length (rules_with s ra p) ≡ length ra
    go Terms e = rw (e, rules_with) refl
    go Nonterms e = rw (e, rules_with) refl
    go Rules e = rw (e, rules_with) refl
    go Rule e = rw (e, rules_with) (length-set ra s.rules p)
    go States e = rw (e, rules_with) refl
    go State e = rw (e, rules_with) refl
    go Item e = rw (e, rules_with) refl
    go Go e = rw (e, rules_with) refl
    go End e = rw (e, rules_with) refl

-- the same of the states' places
states_length : (s : Shape) (sa : List ℕ) (p : ℕ) → length (states_with s sa p) ≡ length sa
unfolding states_with
states_length s sa p = go s.due refl
  where
    go : (w : Due) → s.due ≡ w → length (states_with s sa p) ≡ length sa
    go Terms e = rw (e, states_with) refl
    go Nonterms e = rw (e, states_with) refl
    go Rules e = rw (e, states_with) refl
    go Rule e = rw (e, states_with) refl
    go States e = rw (e, states_with) refl
    go State e = rw (e, states_with) (length-set sa (s.states - s.states_left) p)
    go Item e = rw (e, states_with) refl
    go Go e = rw (e, states_with) refl
    go End e = rw (e, states_with) refl

-- the places of the states are noted at a state line alone
pub other_state : (s : Shape) (sa : List ℕ) (p : ℕ) → (s.due ≡ State → ⊥) → states_with s sa p ≡ sa
unfolding states_with
other_state s sa p h = go s.due refl h
  where
    go : (w : Due) → s.due ≡ w → (w ≡ State → ⊥) → states_with s sa p ≡ sa
    go Terms e k = rw (e, states_with) refl
    go Nonterms e k = rw (e, states_with) refl
    go Rules e k = rw (e, states_with) refl
    go Rule e k = rw (e, states_with) refl
    go States e k = rw (e, states_with) refl
    go State e k = absurd (k refl)
    go Item e k = rw (e, states_with) refl
    go Go e k = rw (e, states_with) refl
    go End e k = rw (e, states_with) refl

-- ---- the walk

-- nothing was read
pub walk_start : (ns lengths ra sa : List ℕ) → length lengths ≡ max_rules → length ra ≡ max_rules → length sa ≡ max_states →
    Walked ns 0 0 start_shape lengths ra sa
walk_start ns lengths ra sa l m n = record {
  draft = start;
  shaped = start-shaped lengths l;
  inside = omega arith;
  counted = omega arith;
  on = refl;
  rules_long = m;
  states_long = n;
  drafted = start-drafted ns ra sa;
}

module _ {ns : List ℕ} {p line : ℕ} {s : Shape} {lengths ra sa : List ℕ} (h : Walked ns p line s lengths ra sa) where
  -- the line that is due, to the draft
  due-is : (w : Due) → s.due ≡ w → h.draft.due ≡ due_of w
  due-is w e = sym (due-same h.shaped) ∙ ap due_of e

  -- there is room to note a rule's place
  pub walk_notable : p < length ns → length ns ≤ max_numbers → Notable s p
  walk_notable l m = record { small = omega arith; rule = rule }
    where
      rule : s.due ≡ Rule → s.rules < max_rules
      rule e =
          let k = h.shaped.bounded.rule_left (due-is Rule e) in
          let b = h.shaped.bounded.rules_in in
          let r = ap (λ (x : Shape). x.rules) h.shaped.same in
          omega arith

  -- the count at p, and what is left after it
  cons : p < length ns → drop p ns ≡ get_or ns p 0 ∷ drop (suc p) ns
  cons l = drop-cons ns p 0 l

  -- how many numbers come after the count
  left : length (drop (suc p) ns) ≡ length ns - suc p
  left = length-drop (suc p) ns

  -- the count is larger than what is left
  pub walk_short : p < length ns → length ns ≤ max_numbers → length ns - (p + 1) < get_or ns p 0 → read_numbers ns ≡ Lined.unfit line
  walk_short l m k =
      let e = left in
      read_from ns m ∙ (sym h.on ∙ (ap (lines_at line h.draft) (cons l) ∙ at_short line h.draft (get_or ns p 0) (drop (suc p) ns) (omega arith)))

  -- the line does not fit
  pub walk_unfit : p < length ns → length ns ≤ max_numbers → get_or ns p 0 ≤ length ns - (p + 1) → (xs : List ℕ) → xs ≡ take (get_or ns p 0) (drop (suc p) ns) →
      accepted s lengths xs ≡ None → read_numbers ns ≡ Lined.unfit line
  walk_unfit l m k xs q a =
      let e = left in
      let f = (step_unfit xs h.shaped a).1 in
      read_from ns m ∙ (sym h.on ∙ (ap (lines_at line h.draft) (cons l) ∙
      at_unfit line h.draft (get_or ns p 0) (drop (suc p) ns) (omega arith) (ap (L.accept h.draft) (sym q) ∙ f)))

  -- the line fits
  pub walk_next : p < length ns → get_or ns p 0 ≤ length ns - (p + 1) → (xs : List ℕ) → xs ≡ take (get_or ns p 0) (drop (suc p) ns) →
      (s' : Shape) → accepted s lengths xs ≡ Some s' →
      Walked ns (p + 1 + get_or ns p 0) (line + 1) s' (lengths_after s lengths xs) (rules_with s ra p) (states_with s sa p)
  walk_next l k xs q s' a =
      let n = get_or ns p 0 in
      let e = left in
      let (f, t, u) = step_next xs h.shaped a in
      let x : line + 1 ≡ suc line = omega arith in
      let r : p + 1 + n ≡ suc p + n = omega arith in
      let y : drop (p + 1 + n) ns ≡ drop n (drop (suc p) ns) = ap (λ (j : ℕ). drop j ns) r ∙ sym (drop-drop n (suc p) ns) in
      let z : length xs ≡ n = ap (λ (x : List ℕ). length x) q ∙ length-take-le n (drop (suc p) ns) (omega arith) in
      record {
        draft = L.next h.draft xs;
        shaped = u;
        inside = omega arith;
        counted = let c = h.counted in omega arith;
        on = (λ i. lines_at (x i) (L.next h.draft xs) (y i)) ∙
            (sym (at_fit line h.draft (L.next h.draft xs) n (drop (suc p) ns) (omega arith) (ap (L.accept h.draft) (sym q) ∙ t)) ∙
            (ap (lines_at line h.draft) (sym (cons l)) ∙ h.on));
        rules_long = rules_length s ra p ∙ h.rules_long;
        states_long = states_length s sa p ∙ h.states_long;
        drafted = subst (λ m. Drafted ns (p + 1 + m) (rules_with s ra p) (states_with s sa p) (L.next h.draft xs)) z
            (subst (λ v. Drafted ns (p + 1 + length xs) (rules_with v ra p) (states_with v sa p) (L.next h.draft xs)) (sym h.shaped.same)
            (next-drafted ns p ra sa xs h.draft (subst (LineAt ns p) (sym q) (line_at ns p n (omega arith) refl)) h.drafted h.shaped.bounded
            h.rules_long h.states_long f));
      }

  -- nothing is left at the end
  drop_all : p ≡ length ns → drop p ns ≡ []
  drop_all e = let l : length ns ≤ p = omega arith in drop_of_length-le ns l

  -- a line is missing
  pub walk_missing : p ≡ length ns → length ns ≤ max_numbers → is_end (due_of s.due) ≡ false → read_numbers ns ≡ Lined.unfit line
  walk_missing e m f =
      let none : drop p ns ≡ [] = drop_all e in
      read_from ns m ∙ (sym h.on ∙ (ap (lines_at line h.draft) none ∙
      at_missing line h.draft (ap is_end (sym (due-same h.shaped)) ∙ f)))

  -- all lines fit
  pub walk_end : p ≡ length ns → length ns ≤ max_numbers → s.due ≡ End →
      Fine ns ra sa (record { terms = s.terms; nonterms = s.nonterms; rules = s.rules; states = s.states })
  walk_end e m w =
      let d = h.draft in
      let fin = read_all in
      let is = table_of_law ns d fin in
      let (f, whole) = read_fits ns d fin in
      let same = h.shaped.same in
      let ends : Stands ns p sa d L.Due.end = subst (Stands ns p sa d) (due-is End w) h.drafted.stands in
      let c = ends.1 in
      record {
        fine = fin ∙ ap {B = Lined} (λ (x : Draft). Lined.fine x) whole ∙ ap {B = Lined} (λ (x : Table). Lined.fine (finished x)) (sym is);
        held = record {
          in_range = subst InRange (sym is) f.in_range;
          terms_are = ap (λ (x : Shape). x.terms) same ∙ ap (λ (x : Table). x.grammar.terms) (sym is);
          nonterms_are = ap (λ (x : Shape). x.nonterms) same ∙ ap (λ (x : Table). x.grammar.nonterms) (sym is);
          rules_are = ap (λ (x : Shape). x.rules) same ∙ ap (λ (x : Table). length x.grammar.rules) (sym is);
          states_are = ap (λ (x : Shape). x.states) same ∙ (sym c ∙ ap (λ (x : Table). length x.states) (sym is));
          rules_at = subst (λ (x : Table). RulesAt ns ra x.grammar) (sym is) h.drafted.rules_at;
        };
        states_at = subst (λ (x : Table). StatesAt ns sa x) (sym is) (subst (StatesTo ns sa d.states) e ends.0);
      }
    where
      read_all : read_numbers ns ≡ Lined.fine h.draft
      read_all = read_from ns m ∙ (sym h.on ∙ (ap (lines_at line h.draft) (drop_all e) ∙
          at_end line h.draft (ap is_end (due-is End w) ∙ end_is)))

-- the same by equal parts
pub walk_is : {ns : List ℕ} {p q line : ℕ} {s s' : Shape} {ls ls' ra ra' sa sa' : List ℕ} → Walked ns p line s ls ra sa → p ≡ q → s ≡ s' → ls ≡ ls' → ra ≡ ra' →
    sa ≡ sa' → Walked ns q line s' ls' ra' sa'
walk_is {ns} {p} {q} {line} {s} {s'} {ls} {ls'} {ra} {ra'} {sa} {sa'} h a e b c d =
    subst (Walked ns q line s' ls' ra') d (subst (λ x. Walked ns q line s' ls' x sa) c (subst (λ x. Walked ns q line s' x ra sa) b
    (subst (λ x. Walked ns q line x ls ra sa) e (subst (λ x. Walked ns x line s ls ra sa) a h))))
