-- What a walk over a list's places tells of its members.
use Prim.Native.Nat.{ℕ, ◌≤◌, ◌<◌}
use native.Mathlib.Omega.{arith}
use mathlib.Core.Path.{◌≡◌, subst}
use mathlib.Core.Bool.{Bool, true, false}
use mathlib.Core.List.{List}
use mathlib.Core.List.{Memᴰ as Mem}
use lib.ListN.{length, get_or}
use Rattle.table.specs.Members.{mem_at, all_mem}
use Rattle.table.specs.Tests.Tell.{Tells, tells_yes, tells_no, refutes}

module _ {A : Type 0} (P : A → Type 0) (l : List A) (d : A) (k : ℕ) where
  -- one fails: not all have it
  pub every_no : k < length l → {x : A} → x ≡ get_or l k d → {b : Bool} → Tells b (P x) → b ≡ false → Tells false ((y : A) → Mem y l → P y)
  every_no h e {b} w f = tells_no (λ all. refutes (subst (λ y. Tells b (P y)) e w) f (all (get_or l k d) (mem_at l k d h)))

  -- one passes: it has it
  pub every_here : {x : A} → x ≡ get_or l k d → {b : Bool} → Tells b (P x) → b ≡ true → P (get_or l k d)
  every_here e w f = subst P e (w.holds f)

  -- all have been passed: all have it
  pub every_yes : length l ≤ k → ((j : ℕ) → j < k → P (get_or l j d)) → Tells true ((y : A) → Mem y l → P y)
  every_yes h all = tells_yes (all_mem P l d (λ j g. all j (omega arith)))
