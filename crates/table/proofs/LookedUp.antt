-- What building the look-ups of a table tells.
use Prim.Native.Nat.{ℕ, ◌≤◌}
use native.Mathlib.Omega.{arith}
use mathlib.Core.Path.{◌≡◌, refl, sym, ap, ◌∙◌}
use mathlib.Core.Bool.{Bool, true, false, false≢true, ◌&&◌}
use mathlib.Core.List.{List}
use lib.ListN.{length}
use Rattle.lines.specs.Lines.{Lined, read_numbers}
use Rattle.lines.specs.Limits.{max_terms, max_nonterms, max_states}
use Rattle.table.specs.declared.Sizes.{Sizes}
use Rattle.table.specs.declared.Unread.{Unread}
use Rattle.table.specs.Lined.{Refused, Fine}
use Rattle.table.specs.Places.{table_in}
use Rattle.table.specs.Places.Step.{held_terms, held_nonterms}
use Rattle.table.specs.LookUps.{LookUps, Looked, fit, room_for, roomy}

-- lines that do not fit
unfit_lines : (ns : List ℕ) (e : Unread) → Refused ns e → fit (read_numbers ns) ≡ false
unfolding fit
unfit_lines ns Unread.TooLong h = ap fit h
unfit_lines ns (Unread.Unfit n) h = ap fit h

-- nothing is changed
unchanged : {ns acts go lens lefts : List ℕ} → (fit (read_numbers ns) && roomy (table_in ns) (length acts) (length go)) ≡ false →
    Looked ns acts go lens lefts acts go lens lefts false
unchanged e = record { told = sym e; built = λ q. absurd (false≢true q); kept = λ q. (refl, refl, refl, refl) }

-- so it is where the lines do not fit
pub told_unfit : {ns acts go lens lefts : List ℕ} (e : Unread) → Refused ns e → Looked ns acts go lens lefts acts go lens lefts false
told_unfit {ns} {acts} {go} e h = unchanged (ap (λ (b : Bool). b && roomy (table_in ns) (length acts) (length go)) (unfit_lines ns e h))

-- ---- lines that fit

module _ {ns rules states : List ℕ} {z : Sizes} (f : Fine ns rules states z) where
  -- the sizes are small enough for the test of the room
  pub few : (z.terms ≤ max_terms) × (z.nonterms ≤ max_nonterms) × (z.states ≤ max_states)
  few = let e = f.held.states_are in let m = f.held.in_range.state_count.1 in (held_terms f.held, held_nonterms f.held, omega arith)

  -- the test of the room is the table's
  its_room : (a g : ℕ) → room_for z.terms z.nonterms z.states a g ≡ (fit (read_numbers ns) && roomy (table_in ns) a g)
  unfolding fit
  its_room a g =
      let H = f.held in
      let t = table_in ns in
      ap (λ (h : ℕ). room_for h z.nonterms z.states a g) H.terms_are ∙
      ap (λ (n : ℕ). room_for t.grammar.terms n z.states a g) H.nonterms_are ∙
      ap (λ (m : ℕ). room_for t.grammar.terms t.grammar.nonterms m a g) H.states_are ∙
      ap (λ (l : Lined). fit l && roomy t a g) (sym f.fine)

  -- there is too little room
  pub told_small : {acts go lens lefts : List ℕ} → false ≡ room_for z.terms z.nonterms z.states (length acts) (length go) →
      Looked ns acts go lens lefts acts go lens lefts false
  told_small {acts} {go} e = unchanged (sym (e ∙ its_room (length acts) (length go)))

  -- all is built
  pub told_built : {acts go lens lefts acts' go' lens' lefts' : List ℕ} → true ≡ room_for z.terms z.nonterms z.states (length acts) (length go) →
      LookUps (table_in ns) (length acts) (length go) acts' go' lens' lefts' → Looked ns acts go lens lefts acts' go' lens' lefts' true
  told_built {acts} {go} e b = record { told = e ∙ its_room (length acts) (length go); built = λ q. b; kept = λ q. absurd (false≢true (sym q)) }
