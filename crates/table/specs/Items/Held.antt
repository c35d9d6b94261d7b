-- The items and go lines of a held table's states at their places.
use Rattle.std.specs.Prelude.{ℕ, ◌+◌, ◌-◌, ◌*◌, ◌<◌, ◌≡◌, List, length, get_or, take, drop}
use Rattle.std.proofs.Common.{arith, add-one, sym, ap, subst, ◌∙◌, length-take, length-drop, ext_get_or, get_or-take, get_or-drop}
use Rattle.theory.specs.Table.{Item, state_at, no_state, count}
use Rattle.lines.specs.Ranges.{ItemIn, StateIn}
use Rattle.table.specs.declared.Sizes.{Sizes}
use Rattle.table.specs.Members.{mem_at}
use Rattle.table.specs.Places.{ItemAt, GoAt, StateAt, StatesAt, Held, item_place, after_item, gos_place, no_item, no_go, table_in, grammar_in}
use Rattle.table.specs.Places.Step.{item_first, item_after}
use Rattle.table.specs.Items.{item_in, ItemHeld, ItemHere, GoHere, StatesHeld, AtItem, AtGo}

-- the item whose line stands at a place is the one that is read there
pub item_same : {ns : List ℕ} {p : ℕ} {i : Item} → ItemAt ns p i → item_in ns p ≡ i
unfolding item_in
item_same {ns} {p} {i} h = λ j. record { rule = h.at_rule j; dot = h.dot_at j; ahead = same j }
  where
    n : get_or ns p 0 - 2 ≡ length i.ahead
    n = let c = h.counted in omega arith

    long : length (take (get_or ns p 0 - 2) (drop (p + 3) ns)) ≡ length i.ahead
    long = let a = h.inside in let b = n in simp (length-take, length-drop) (omega arith)

    same : take (get_or ns p 0 - 2) (drop (p + 3) ns) ≡ i.ahead
    same = ext_get_or 0 _ _ long (λ k l. get_or-take (get_or ns p 0 - 2) (drop (p + 3) ns) k 0 (let b = n in let a = long in omega arith) ∙
        (get_or-drop (p + 3) ns k 0 ∙ h.at_ahead k (let a = long in omega arith)))

-- ---- states

-- a table whose rules and states stand at their places
pub states-held : {ns rules states : List ℕ} {z : Sizes} → Held ns rules z → StatesAt ns states (table_in ns) → StatesHeld ns states z
states-held H at = record {
  in_range = H.in_range;
  terms_are = H.terms_are;
  nonterms_are = H.nonterms_are;
  rules_are = H.rules_are;
  states_are = H.states_are;
  states_at = at;
}

module _ {ns places : List ℕ} {z : Sizes} (H : StatesHeld ns places z) (s : ℕ) (l : s < z.states) where
  -- the state is one of the table's
  state_below : s < count (table_in ns)
  state_below = let e = H.states_are in omega arith

  -- a state's lines stand at its place
  pub state_here : StateAt ns (get_or places s 0) (state_at (table_in ns) s)
  state_here = H.states_at.each s state_below

  -- a state is within the ranges
  pub state_in : StateIn (grammar_in ns) (count (table_in ns)) (state_at (table_in ns) s)
  state_in = H.in_range.states_in (state_at (table_in ns) s) (mem_at (table_in ns).states s no_state state_below)

  -- so are its items, whose lines stand at their places
  pub item_here : (k : ℕ) → k < length (state_at (table_in ns) s).items → (at : ℕ) →
      at ≡ item_place (get_or places s 0 + 3) (state_at (table_in ns) s).items k → ItemHere ns at (get_or (state_at (table_in ns) s).items k no_item)
  item_here k g at e =
      let i = get_or (state_at (table_in ns) s).items k no_item in
      let h : ItemAt ns at i = rw e (state_here.items_at k g) in
      let q : item_in ns at ≡ i = item_same h in
      let w : ItemIn (grammar_in ns) i = state_in.items_in i (mem_at (state_at (table_in ns) s).items k no_item g) in
      record {
        held = record {
          line = subst (ItemAt ns at) (sym q) h;
          within = subst (ItemIn (grammar_in ns)) (sym q) w;
          terms_in = H.in_range.term_count.1;
        };
        same = q;
      }

  -- and its go lines
  pub go_here_law : (k : ℕ) → k < length (state_at (table_in ns) s).gos → (at : ℕ) →
      at ≡ gos_place (get_or places s 0) (state_at (table_in ns) s) + 3 * k → GoHere ns at (get_or (state_at (table_in ns) s).gos k no_go)
  go_here_law k g at e =
      let h : GoAt ns at (get_or (state_at (table_in ns) s).gos k no_go) = rw e (state_here.gos_at k g) in
      record {
        inside = h.inside;
        within = state_in.gos_in _ (mem_at (state_at (table_in ns) s).gos k no_go g);
        same = λ j. record { on = h.on_at j; to = h.to_at j };
      }

  -- ---- walks

  -- what a walk over the items has come to
  pub walk_here : {n k at : ℕ} → AtItem ns places s n k at → k < n → ItemHere ns at (get_or (state_at (table_in ns) s).items k no_item)
  walk_here {n} {k} {at} w g = let e = w.counted in item_here k (omega arith) at w.stands

  -- what a walk over the go lines has come to
  pub go_walk_here : {n k at : ℕ} → AtGo ns places s n k at → k < n → GoHere ns at (get_or (state_at (table_in ns) s).gos k no_go)
  go_walk_here {n} {k} {at} w g = let e = w.counted in go_here_law k (omega arith) at w.stands

-- the line of the item that a walk has come to
pub walk_held : {ns places : List ℕ} {z : Sizes} {s n k at : ℕ} → StatesHeld ns places z → s < z.states →
    AtItem ns places s n k at → k < n → ItemHeld ns at
walk_held {s = s} H l w g = (walk_here H s l w g).held

-- from an item to the next, as a loop goes
pub item_on : {ns : List ℕ} (p : ℕ) (is : List Item) (k : ℕ) → k < length is → {at next : ℕ} → at ≡ item_place p is k →
    ItemHere ns at (get_or is k no_item) → next ≡ after_item at (item_in ns at) → next ≡ item_place p is (k + 1)
item_on p is k l e h q =
    q ∙ ((λ j. after_item (e j) (h.same j)) ∙ (sym (item_after p is k l) ∙ ap (item_place p is) (sym (add-one k))))

-- a walk over the items begins
pub walk_first : {ns places : List ℕ} {s n at : ℕ} → n ≡ length (state_at (table_in ns) s).items → at ≡ get_or places s 0 + 3 → AtItem ns places s n 0 at
walk_first {ns} {places} {s} c e = record { counted = c; passed = omega arith; stands = e ∙ sym (item_first (get_or places s 0 + 3) (state_at (table_in ns) s).items) }

-- and goes on
pub walk_on : {ns places : List ℕ} {s n k at next : ℕ} → AtItem ns places s n k at → k < n → ItemHere ns at (get_or (state_at (table_in ns) s).items k no_item) →
    next ≡ after_item at (item_in ns at) → AtItem ns places s n (k + 1) next
walk_on {ns} {places} {s} {n} {k} w g h q =
    let e = w.counted in
    record {
      counted = e;
      passed = omega arith;
      stands = item_on (get_or places s 0 + 3) (state_at (table_in ns) s).items k (omega arith) w.stands h q;
    }

-- a walk over the go lines begins
pub go_walk_first : {ns places : List ℕ} {s n at : ℕ} → n ≡ length (state_at (table_in ns) s).gos → at ≡ gos_place (get_or places s 0) (state_at (table_in ns) s) →
    AtGo ns places s n 0 at
go_walk_first c e = record { counted = c; passed = omega arith; stands = omega arith }

-- and goes on
pub go_walk_on : {ns places : List ℕ} {s n k at : ℕ} → AtGo ns places s n k at → k < n → AtGo ns places s n (k + 1) (at + 3)
go_walk_on w g = let e = w.stands in record { counted = w.counted; passed = omega arith; stands = omega arith }
