-- Reading the lines of one state, and of all states: where the reading stops, where it goes on, and that the look-ahead sets of all items are noted.
use Rattle.std.specs.Prelude.{Result, Ok, Err}
use Prim.Native.Nat.{ℕ, zero, suc, ◌+◌, ◌-◌, ◌*◌, ◌/◌, ◌≤◌, ◌<◌}
use native.Mathlib.Omega.{arith}
use native.Mathlib.Numerals.{add-one}
use mathlib.Core.Path.{◌≡◌, refl, sym, ap, ◌∙◌, subst}
use mathlib.Core.Bool.{true, false}
use mathlib.Core.List.{List, [], ◌∷◌}
use mathlib.Core.List.{Memᴰ as Mem}
use lib.ListN.{length, get_or, set, length-set}
use lib.Seq.{get_or-set_same, get_or-set_other}
use borrow.Author.Count.{below_more}
use Rattle.theory.specs.Table as T
use Rattle.theory.specs.Table.{state_at}
use Rattle.lines.specs.Basics.{impossible}
use Rattle.lines.specs.Limits.{max_states, max_numbers}
use Rattle.lines.specs.Lines.{Lined, read_numbers}
use Rattle.lines.specs.Lines.Fits.{at, fits_state}
use Rattle.lines.specs.Ranges.Tests.{state_says}
use Rattle.table.specs.declared.Sizes.{Sizes}
use Rattle.table.specs.declared.Unread.{Unread}
use Rattle.table.specs.declared.states.Reached.{Reached}
use Rattle.table.specs.Aheads.{AllNoted}
use Rattle.table.specs.Items.{item_in}
use Rattle.table.specs.Lined.{Refused, Fine}
use Rattle.table.specs.Places.{LineAt, table_in, item_place, ItemsAt}
use Rattle.table.specs.Places.Step.{item_first, item_next}
use Rattle.table.specs.Sets.{SetOf}
use Rattle.table.specs.States.{numbers_at, Whole, in_state, Inside, Reach, Goes, Stops, StateGoes, line_place, SetIn, SetsTo, StatesSets, GosRead, StateRead}
use Rattle.table.specs.Walk.{Walked}
use Rattle.table.proofs.LineLaws.{line-broken, line-unfit, line-fits, line-over}
use Rattle.table.proofs.Reading.{line_at}
use Rattle.table.proofs.StateShapes.{state_not_end, states_end, state_fits, state_lengths, state_rules, state_states, state_next}
use Rattle.table.proofs.Walked.{walk_is, walk_end}

-- ---- the line of a state

-- a state line that fits: two numbers, of which the first says how many items the state has, at least one
pub record StateLine (ns : List ℕ) (p : ℕ) (xs : List ℕ) : Type 0 where
  pub two : length xs ≡ 2
  pub inside : p + 2 < length ns
  pub items : at xs 0 ≡ get_or ns (p + 1) 0
  pub gos : at xs 1 ≡ get_or ns (p + 2) 0
  pub some : 1 ≤ at xs 0

-- so is every state line that fits
pub state_line : {ns : List ℕ} {p : ℕ} → Whole ns p → (xs : List ℕ) → xs ≡ numbers_at ns p → fits_state xs ≡ true → StateLine ns p xs
state_line {ns} {p} w xs q f =
    let (i, l, v, b, d) = state_says xs f in
    let line : LineAt ns p (i ∷ l ∷ []) = subst (LineAt ns p) (sym q ∙ v) (line_at ns p (get_or ns p 0) (let (x, y) = w in omega arith) refl) in
    let first : get_or ns (p + 1 + 0) 0 ≡ i = line.numbers 0 (omega arith) in
    let second : get_or ns (p + 1 + 1) 0 ≡ l = line.numbers 1 (omega arith) in
    let y : p + 1 + 0 ≡ p + 1 = omega arith in
    let z : p + 1 + 1 ≡ p + 2 = omega arith in
    record {
      two = ap (λ (o : List ℕ). length o) v;
      inside = line.inside;
      items = ap (λ (o : List ℕ). at o 0) v ∙ (sym first ∙ ap (λ (o : ℕ). get_or ns o 0) y);
      gos = ap (λ (o : List ℕ). at o 1) v ∙ (sym second ∙ ap (λ (o : ℕ). get_or ns o 0) z);
      some = let r : at xs 0 ≡ i = ap (λ (o : List ℕ). at o 0) v in let m = b.0 in omega arith;
    }

-- ---- the lines of a state

-- the go lines after the items leave their sets
pub sets_past : {ns : List ℕ} {terms from k l p q : ℕ} {before after : List ℕ} → k ≡ l → p ≤ q → SetsTo ns terms from k p before after →
    SetsTo ns terms from l q before after
sets_past e l h = record {
  long = h.long;
  each = λ i m. let (a, b) = h.each i (omega arith) in (a, omega arith);
  kept = h.kept;
}

module _ {ns lengths : List ℕ} (z : Sizes) (from : Reached) where
  -- no whole line stands where the state line is due
  pub state_missing : length ns ≤ max_numbers → (Whole ns from.at → ⊥) → (j : ℕ) → Stops ns lengths (in_state z (suc j) 0 0 0) from (Unread.Unfit from.line)
  state_missing few k j = record { stop = λ h. line-broken h few k (state_not_end z j) }

  -- the state line does not fit
  pub state_unfit : length ns ≤ max_numbers → Whole ns from.at → (xs : List ℕ) → xs ≡ numbers_at ns from.at → fits_state xs ≡ false → (j : ℕ) →
      Stops ns lengths (in_state z (suc j) 0 0 0) from (Unread.Unfit from.line)
  state_unfit few w xs q f j = record { stop = λ h. line-unfit h few w xs q (state_fits z j lengths xs ∙ f) }

  module _ (w : Whole ns from.at) (xs : List ℕ) (q : xs ≡ numbers_at ns from.at) (f : fits_state xs ≡ true) {items gos : ℕ} (a : items ≡ at xs 0)
      (b : gos ≡ at xs 1) where
    -- the state line fits
    state_on : (j : ℕ) {ra sa : List ℕ} → Walked ns from.at from.line (in_state z (suc j) 0 0 0) lengths ra sa →
        Walked ns (from.at + 3) (from.line + 1) (in_state z j items gos 0) lengths ra (set sa (z.states - suc j) from.at)
    state_on j {ra} {sa} h =
        let s = state_line w xs q f in
        let t = s.two in
        walk_is (line-fits h w xs q (state_fits z j lengths xs ∙ f)) (omega arith)
        (state_next z j xs s.some ∙ (λ i. in_state z j (sym a i) (sym b i) 0))
        (state_lengths z j lengths xs) (state_rules z j ra from.at) (state_states z j sa from.at)

    -- an item line does not fit
    pub items-stop : {e : Unread} → ((j l : ℕ) → Stops ns lengths (in_state z j items l 0) (record { at = from.at + 3; line = from.line + 1 }) e) →
        (j : ℕ) → Stops ns lengths (in_state z (suc j) 0 0 0) from e
    items-stop g j = record { stop = λ h. (g j gos).stop (state_on j h) }

    -- all item lines fit
    module _ {after : Reached}
        (g : (j l : ℕ) → Goes ns lengths (in_state z j items l 0) (in_state z j 0 l 0) (record { at = from.at + 3; line = from.line + 1 }) after) where
      both : (j : ℕ) {ra sa : List ℕ} → Walked ns from.at from.line (in_state z (suc j) 0 0 0) lengths ra sa →
          Walked ns after.at after.line (in_state z j 0 gos 0) lengths ra (set sa (z.states - suc j) from.at)
      both j h = (g j gos).on (state_on j h)

      -- a go line does not
      pub gos-stop : {e : Unread} → ((j : ℕ) → Stops ns lengths (in_state z j 0 gos 0) after e) → (j : ℕ) →
          Stops ns lengths (in_state z (suc j) 0 0 0) from e
      gos-stop i j = record { stop = λ h. (i j).stop (both j h) }

      -- and all go lines
      pub gos-on : {to : Reached} → ((j : ℕ) → Goes ns lengths (in_state z j 0 gos 0) (in_state z j 0 0 0) after to) →
          StateGoes ns lengths z from to
      gos-on i = record { on = λ j l h. (i j).on (both j h) }

      -- the go lines decide
      pub by-gos : {before sets : List ℕ} → SetsTo ns z.terms (from.at + 3) items after.at before sets →
          Reach ns (record { at = from.at + 3; line = from.line + 1 }) after → (r : Result Reached Unread) →
          GosRead ns lengths z after gos r → StateRead ns lengths z from before sets r
      by-gos s h (Err e) i = gos-stop i
      by-gos s h (Ok to) (r, n, i) =
          let l = h.lines in
          let p = h.past in
          let m = r.lines in
          let o = r.past in
          let c = (state_line w xs q f).items in
          (record { inside = r.inside; lines = omega arith; past = omega arith }, gos-on i, sets_past (a ∙ c) (omega arith) s)

-- ---- the lines of all states

-- where the reading of the states has come to: the first s states were read, their places are noted, and the sets of their items
pub record StatesDone (ns lengths : List ℕ) (z : Sizes) (from : Reached) (places₀ sets₀ places sets : List ℕ) (to : Reached) (s : ℕ) : Type 0 where
  pub inside : Inside ns to
  pub states : s ≤ z.states
  pub places_long : length places ≡ max_states
  pub sets_long : length sets ≡ length sets₀
  pub noted : StatesSets ns z.terms places s to.at sets
  pub on : {ra : List ℕ} → Walked ns from.at from.line (in_state z z.states 0 0 0) lengths ra places₀ →
      Walked ns to.at to.line (in_state z (z.states - s) 0 0 0) lengths ra places

-- a set is noted still where there are as many sets and the number there is the same
still_in : (ns : List ℕ) (terms p : ℕ) (before after : List ℕ) → length after ≡ length before → get_or after (p / 4) 0 ≡ get_or before (p / 4) 0 →
    SetIn ns terms before p → SetIn ns terms after p
still_in ns terms p before after e g h = λ l. subst (SetOf (λ a. Mem a (item_in ns p).ahead) (suc terms)) (sym g) (h (omega arith))

-- the sets of one more state are noted
sets_more : (ns : List ℕ) (terms s p q : ℕ) (places before after : List ℕ) → s < length places → p ≤ q → StatesSets ns terms places s p before →
    SetsTo ns terms (p + 3) (get_or ns (p + 1) 0) q before after → StatesSets ns terms (set places s p) (s + 1) q after
sets_more ns terms s p q places before after l m h w = below_more _ _ old new
  where
    old : (u : ℕ) → u < s → (k : ℕ) → k < get_or ns (get_or (set places s p) u 0 + 1) 0 →
        SetIn ns terms after (line_place ns (get_or (set places s p) u 0 + 3) k) × (line_place ns (get_or (set places s p) u 0 + 3) k + 4 ≤ q)
    old u i = rw (get_or-set_other places s u p 0 (λ e. impossible (omega arith))) (λ k g.
        let (a, b) = h u i k g in
        (still_in ns terms (line_place ns (get_or places u 0 + 3) k) before after w.long (w.kept (line_place ns (get_or places u 0 + 3) k) (omega arith)) a, omega arith))

    new : (k : ℕ) → k < get_or ns (get_or (set places s p) s 0 + 1) 0 →
        SetIn ns terms after (line_place ns (get_or (set places s p) s 0 + 3) k) × (line_place ns (get_or (set places s p) s 0 + 3) k + 4 ≤ q)
    new = rw (get_or-set_same places s p 0 l) w.each

-- the place of an item is that of its line
line_places : (ns : List ℕ) (p : ℕ) (is : List T.Item) (k : ℕ) → ItemsAt ns p is → k ≤ length is → line_place ns p k ≡ item_place p is k
unfolding line_place
line_places ns p is zero h l = sym (item_first p is)
line_places ns p is (suc k) h l =
    let e = line_places ns p is k h (omega arith) in
    let g = item_next ns p is k h (omega arith) in
    (λ i. e i + 1 + get_or ns (e i) 0) ∙ (sym g ∙ ap (item_place p is) (add-one k))

module _ {ns lengths : List ℕ} {z : Sizes} {from : Reached} {places₀ sets₀ : List ℕ} where
  -- no state was read
  pub states_none : Inside ns from → length places₀ ≡ max_states → StatesDone ns lengths z from places₀ sets₀ places₀ sets₀ from 0
  states_none r e = record {
    inside = r;
    states = omega arith;
    places_long = e;
    sets_long = refl;
    noted = λ u i. impossible (omega arith);
    on = λ {ra} h.
        let j : z.states ≡ z.states - 0 = omega arith in
        subst (λ i. Walked ns from.at from.line (in_state z i 0 0 0) lengths ra places₀) j h;
  }

  module _ {places sets : List ℕ} {to : Reached} {s : ℕ} (d : StatesDone ns lengths z from places₀ sets₀ places sets to s) where
    -- where a state is left, and one less after it
    due_next : s < z.states → {ra : List ℕ} → Walked ns from.at from.line (in_state z z.states 0 0 0) lengths ra places₀ →
        Walked ns to.at to.line (in_state z (suc (z.states - suc s)) 0 0 0) lengths ra places
    due_next l {ra} h =
        let e : z.states - s ≡ suc (z.states - suc s) = omega arith in
        subst (λ j. Walked ns to.at to.line (in_state z j 0 0 0) lengths ra places) e (d.on h)

    -- a state's lines do not all fit
    pub states-stop : s < z.states → {e : Unread} → ((j : ℕ) → Stops ns lengths (in_state z (suc j) 0 0 0) to e) → {ra : List ℕ} →
        Walked ns from.at from.line (in_state z z.states 0 0 0) lengths ra places₀ → Refused ns e
    states-stop l g h = (g (z.states - suc s)).stop (due_next l h)

    -- a state's lines all fit
    pub states-more : s < z.states → z.states ≤ max_states → {o : Reached} {after : List ℕ} → Reach ns to o → StateGoes ns lengths z to o →
        SetsTo ns z.terms (to.at + 3) (get_or ns (to.at + 1) 0) o.at sets after →
        StatesDone ns lengths z from places₀ sets₀ (set places s to.at) after o (s + 1)
    states-more l y {o} {after} r g w =
        let n = length-set places s to.at in
        let b = r.lines in
        let c = r.past in
        let m = d.places_long in
        record {
          inside = r.inside;
          states = omega arith;
          places_long = n ∙ m;
          sets_long = w.long ∙ d.sets_long;
          noted = sets_more ns z.terms s to.at o.at places sets after (omega arith) (omega arith) d.noted w;
          on = λ {ra} h.
              let x : z.states - suc (z.states - suc s) ≡ s = omega arith in
              let j : z.states - suc s ≡ z.states - (s + 1) = omega arith in
              walk_is (g.on (z.states - suc s) (omega arith) (due_next l h)) refl (ap (λ (i : ℕ). in_state z i 0 0 0) j) refl refl
              (ap (λ (i : ℕ). set places i to.at) x);
        }

    -- no state is left
    due_end : z.states ≤ s → {ra : List ℕ} → Walked ns from.at from.line (in_state z z.states 0 0 0) lengths ra places₀ →
        Walked ns to.at to.line (in_state z 0 0 0 0) lengths ra places
    due_end l {ra} h =
        let e : z.states - s ≡ 0 = omega arith in
        subst (λ j. Walked ns to.at to.line (in_state z j 0 0 0) lengths ra places) e (d.on h)

    -- and yet a line
    pub states-over : length ns ≤ max_numbers → z.states ≤ s → to.at < length ns → {ra : List ℕ} →
        Walked ns from.at from.line (in_state z z.states 0 0 0) lengths ra places₀ → read_numbers ns ≡ Lined.unfit to.line
    states-over few l i h = line-over (due_end l h) few i (states_end z)

    -- and no line
    pub states-fine : length ns ≤ max_numbers → z.states ≤ s → length ns ≤ to.at → {ra : List ℕ} →
        Walked ns from.at from.line (in_state z z.states 0 0 0) lengths ra places₀ → Fine ns ra places z
    unfolding in_state
    states-fine few l i h = let y = d.inside.inside in walk_end (due_end l h) (omega arith) few (states_end z)

    -- the sets of all items are noted
    pub states-noted : z.states ≤ s → {ra : List ℕ} → Fine ns ra places z → length ns ≤ 4 * length sets → AllNoted ns places z sets
    states-noted l F room u i k m =
        let P = get_or places u 0 in
        let n = F.held.states_are in
        let S = F.states_at.each u (omega arith) in
        let c = S.items_counted in
        let (a, b) = d.noted u (omega arith) k (omega arith) in
        let e = line_places ns (P + 3) (state_at (table_in ns) u).items k S.items_at (omega arith) in
        let y = d.inside.inside in
        record {
          room = omega arith;
          set = subst (λ q. SetOf (λ x. Mem x (item_in ns q).ahead) (suc (table_in ns).grammar.terms) (get_or sets (q / 4) 0)) e
              (subst (λ t. SetOf (λ x. Mem x (item_in ns (line_place ns (P + 3) k)).ahead) (suc t) (get_or sets (line_place ns (P + 3) k / 4) 0)) F.held.terms_are
              (a (omega arith)));
        }
