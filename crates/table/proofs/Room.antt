-- The test whether there is room for the entries of the look-ups, and what it says.
use Prim.Native.Nat.{ℕ, suc, ◌+◌, ◌*◌, ◌≤◌, ◌<◌}
use native.Mathlib.Omega.{arith}
use native.Mathlib.Nat.{mul-le-mul}
use native.Mathlib.Numerals.{add-one}
use mathlib.Core.Path.{◌≡◌, ap, sym, ◌∙◌}
use mathlib.Core.Bool.{Bool, true, ◌&&◌}
use lib.Dec.{leb}
use borrow.Author.Tests.{leb-true, le-leb, lt-leb}
use Rattle.theory.proofs.Basics.{both}
use Rattle.lines.specs.Limits.{max_terms, max_nonterms, max_states}
use Rattle.table.specs.LookUps.{room_for}

module _ (h n m acts go : ℕ) where
  -- there is room for both
  abbrev pub Room : Type 0
  Room = (h * m ≤ acts) × (suc (h + n) * m ≤ go)

  -- where the test tells so
  pub room_says : room_for h n m acts go ≡ true → Room
  unfolding room_for
  room_says e = let (p, q) = both (leb (h * m) acts) (leb (suc (h + n) * m) go) e in (leb-true (h * m) acts p, leb-true (suc (h + n) * m) go q)

  -- and where there is, the test tells so
  pub says_room : Room → room_for h n m acts go ≡ true
  unfolding room_for
  says_room (p, q) = ap (λ (b : Bool). b && leb (suc (h + n) * m) go) (le-leb (h * m) acts p) ∙ le-leb (suc (h + n) * m) go q

  -- as the code tests it: the tokens' entries have room, and then the symbols'
  pub room_then : h * m ≤ acts → leb ((h + n + 1) * m) go ≡ room_for h n m acts go
  unfolding room_for
  room_then p = ap (λ (k : ℕ). leb (k * m) go) (add-one (h + n)) ∙ sym (ap (λ (b : Bool). b && leb (suc (h + n) * m) go) (le-leb (h * m) acts p))

  -- the tokens' entries have none
  pub room_none : acts < h * m → leb (h * m) acts ≡ room_for h n m acts go
  unfolding room_for
  room_none p = lt-leb (h * m) acts p ∙ sym (ap (λ (b : Bool). b && leb (suc (h + n) * m) go) (lt-leb (h * m) acts p))

-- so many entries for tokens and states are called for at most
pub acts_small : {h m : ℕ} → h ≤ max_terms → m ≤ max_states → h * m ≤ max_terms * max_states
acts_small a b = mul-le-mul a b

-- and so many for symbols and states
pub goes_small : {h n m : ℕ} → h ≤ max_terms → n ≤ max_nonterms → m ≤ max_states → (h + n + 1) * m ≤ (max_terms + max_nonterms + 1) * max_states
goes_small a b c = mul-le-mul {n₂ = max_terms + max_nonterms + 1} {m₂ = max_states} (omega arith) c
