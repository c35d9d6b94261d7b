-- How the entries for tokens or symbols and states are written: state after state, and where an entry was written already it stays.
use Rattle.std.specs.Prelude.{ℕ, zero, suc, ◌+◌, ◌*◌, ◌<◌, ◌≡◌, List, length, get_or, set}

-- the first of two numbers, or the second if the first is 0
unfoldable pub first : ℕ → ℕ → ℕ
first zero y = y
first (suc x) y = suc x

-- the entries with x written at a place, if it was still 0
abbrev pub noted : List ℕ → ℕ → ℕ → List ℕ
noted entries i x = set entries i (first (get_or entries i 0) x)

-- Of h rows of m entries, the entries of column s have their values written where they were still 0. All others are as before.
pub record Column (h m s : ℕ) (value : ℕ → ℕ) (before after : List ℕ) : Type 0 where
  pub here : (y : ℕ) → y < h → get_or after (y * m + s) 0 ≡ first (get_or before (y * m + s) 0) (value y)
  pub other : (i : ℕ) → ((y : ℕ) → y < h → i ≡ y * m + s → ⊥) → get_or after i 0 ≡ get_or before i 0
  pub long : length after ≡ length before

-- Of h rows of m entries, the columns below s have their values. All other entries are 0.
pub record Columns (h m size : ℕ) (value : ℕ → ℕ → ℕ) (s : ℕ) (entries : List ℕ) : Type 0 where
  pub done : (y u : ℕ) → y < h → u < s → get_or entries (y * m + u) 0 ≡ value y u
  pub todo : (i : ℕ) → ((y u : ℕ) → y < h → u < s → i ≡ y * m + u → ⊥) → get_or entries i 0 ≡ 0
  pub long : length entries ≡ size
