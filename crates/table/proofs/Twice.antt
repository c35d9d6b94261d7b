-- Condition 2 by places: each item differs in rule or dot from those before it.
use Prim.Native.Nat.{ℕ, suc, ◌<◌}
use native.Mathlib.Omega.{arith}
use mathlib.Core.Path.{◌≡◌, ap, ◌∙◌}
use mathlib.Core.List.{List}
use mathlib.Core.List.{Memᴰ as Mem}
use lib.ListN.{length, get_or, drop}
use lib.Seq.{split_at}
use Rattle.theory.specs.Table.{Item, Table, state_at, Condition2}
use Rattle.table.specs.Items.{Agrees}
use Rattle.table.specs.Places.{no_item}
use Rattle.table.proofs.Order.{front_at, front_place, by_place}

-- the k-th item differs in rule or dot from each item before it
abbrev pub Lone : List Item → ℕ → Type 0
Lone is k = (j : ℕ) → j < k → Agrees (get_or is k no_item).rule (get_or is k no_item).dot (get_or is j no_item) → ⊥

module _ (t : Table) (s : ℕ) where
  -- where each does, the state keeps condition 2
  pub lone_all : ((k : ℕ) → k < length (state_at t s).items → Lone (state_at t s).items k) → Condition2 t s
  lone_all h before after i j e m =
      by_place (λ front x. (y : Item) → Mem y front → y.rule ≡ x.rule → y.dot ≡ x.dot → ⊥) (state_at t s).items no_item
      (λ k l y n a b.
      let (q, u, v, w) = front_place (state_at t s).items k no_item n in
      h k l q u (ap (λ (z : Item). z.rule) w ∙ a, ap (λ (z : Item). z.dot) w ∙ b)) before after j e i m

  -- and the other way round
  pub all_lone : Condition2 t s → (k : ℕ) → k < length (state_at t s).items → Lone (state_at t s).items k
  all_lone h k l j g (a, b) =
      h _ (drop (suc k) (state_at t s).items) (get_or (state_at t s).items j no_item) (get_or (state_at t s).items k no_item)
      (split_at (state_at t s).items k no_item l) (front_at (state_at t s).items k j no_item g (omega arith)) a b
