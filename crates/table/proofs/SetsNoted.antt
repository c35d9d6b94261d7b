-- The noted look-ahead sets: how many numbers there are to note them for, and the set of one item.
use Prim.Native.Nat.{ℕ, ◌≤◌, ◌<◌}
use native.Mathlib.Omega.{arith}
use native.Mathlib.Decide.{dec_lt}
use mathlib.Core.Path.{◌≡◌, sym, ap, subst}
use mathlib.Core.List.{List}
use lib.ListN.{length}
use Rattle.theory.specs.Table.{Table, state_at}
use Rattle.lines.specs.Limits.{max_numbers}
use Rattle.lines.specs.Ranges.{InRange}
use Rattle.table.specs.declared.Sizes.{Sizes}
use Rattle.theory.proofs.Table.Actions.{has-mem, mem_has}
use Rattle.table.specs.Aheads.{SetNoted, AllNoted, SetTold, AllTold, place_of}
use Rattle.table.specs.Items.{AtItem}
use Rattle.table.specs.Places.{found, no_table, table_in}
use Rattle.table.proofs.Walked.{read_over}

-- a table within the ranges has at most so many numbers
pub numbers_in : (ns : List ℕ) → InRange (table_in ns) → length ns ≤ max_numbers
unfolding table_in
numbers_in ns R = go (dec_lt max_numbers (length ns))
  where
    go : Dec (max_numbers < length ns) → length ns ≤ max_numbers
    go (yes l) =
        let e : table_in ns ≡ no_table = ap found (read_over ns l) in
        let h : 1 ≤ 0 = subst (λ (t : Table). 1 ≤ t.grammar.terms) e R.term_count.0 in
        absurd (omega arith)
    go (no n) = omega arith

-- the set of an item that stands at a place
pub noted_here : {ns sets : List ℕ} (places : List ℕ) (z : Sizes) → AllNoted ns places z sets → (s : ℕ) → s < z.states → (k : ℕ) →
    k < length (state_at (table_in ns) s).items → {at : ℕ} → at ≡ place_of ns places s k → SetNoted ns sets at
noted_here {ns} {sets} places z all s l k g e = subst (SetNoted ns sets) (sym e) (all s l k g)

-- that of the item that a walk has come to
pub noted_walk : {ns sets : List ℕ} (places : List ℕ) (z : Sizes) → AllNoted ns places z sets → (s : ℕ) → s < z.states → {n k at : ℕ} →
    AtItem ns places s n k at → k < n → SetNoted ns sets at
noted_walk places z all s l {n} {k} w g = let e = w.counted in noted_here places z all s l k (omega arith) w.stands

-- ---- noted, and noted by a test

pub told_set : {ns sets : List ℕ} {p : ℕ} → SetNoted ns sets p → SetTold ns sets p
told_set n = record {
  room = n.room;
  set = record { below = n.set.below; holds = λ k i. mem_has (n.set.holds k i); shows = λ k l h. n.set.shows k l (has-mem _ k h) };
}

pub noted_set : {ns sets : List ℕ} {p : ℕ} → SetTold ns sets p → SetNoted ns sets p
noted_set t = record {
  room = t.room;
  set = record { below = t.set.below; holds = λ k i. has-mem _ k (t.set.holds k i); shows = λ k l m. t.set.shows k l (mem_has m) };
}

pub all_told : {ns sets : List ℕ} (places : List ℕ) (z : Sizes) → AllNoted ns places z sets → AllTold ns places z sets
all_told places z all s l k g = told_set (all s l k g)

pub all_noted : {ns sets : List ℕ} (places : List ℕ) (z : Sizes) → AllTold ns places z sets → AllNoted ns places z sets
all_noted places z all s l k g = noted_set (all s l k g)
