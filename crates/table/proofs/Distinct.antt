-- An item of a state is determined by its rule and dot, and a go line by its symbol.
use Prim.Native.Nat.{ℕ}
use native.Mathlib.Omega.{arith}
use mathlib.Core.Path.{◌≡◌, sym}
use mathlib.Core.Logic.{⊎_elim}
use mathlib.Core.List.{Memᴰ as Mem}
use Rattle.theory.proofs.Basics.{mem_order}
use Rattle.theory.specs.Table.{Table, Item, Go, state_at, InState, Fits, Condition2}

module _ (t : Table) (s : ℕ) where
  -- items of a state that agree in rule and dot are the same, where no two do
  pub one_item : Condition2 t s → (i j : Item) → InState t s i → InState t s j → i.rule ≡ j.rule → i.dot ≡ j.dot → i ≡ j
  one_item C i j m n r d = ⊎_elim (λ e. e) (λ o. absurd (⊎_elim
      (λ (b, a, e, k). C b a i j e k r d) (λ (b, a, e, k). C b a j i e k (sym r) (sym d)) o)) (mem_order m n)

  -- go lines of a state for the same symbol are the same
  pub one_go : Fits t → (k l : Go) → Mem k (state_at t s).gos → Mem l (state_at t s).gos → k.on ≡ l.on → k ≡ l
  one_go F k l m n e = ⊎_elim (λ q. q) (λ o. absurd (⊎_elim
      (λ (b, a, q, u). let h = F.go_rise s b a k l q u in omega arith) (λ (b, a, q, u). let h = F.go_rise s b a l k q u in omega arith) o)) (mem_order m n)
