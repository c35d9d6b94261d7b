-- Where the items of a state stand, by rule and dot.
use Rattle.std.specs.Prelude.{ℕ, ◌+◌, ◌*◌, ◌≤◌, ◌<◌, ◌≡◌, List, length, get_or}
use Rattle.theory.specs.Table.{state_at}
use Rattle.lines.specs.Limits.{max_rules, max_right}
use Rattle.table.specs.Aheads.{place_of}
use Rattle.table.specs.Places.{table_in, no_item}

-- how many pairs of a rule, the accept rule too, and a dot there can be
abbrev pub cores : ℕ
cores = 585

-- the number of a rule and a dot
abbrev pub core_of : ℕ → ℕ → ℕ
core_of rule dot = rule * 9 + dot

-- the rule and the dot have a number
abbrev pub CoreIn : ℕ → ℕ → Type 0
CoreIn rule dot = (rule ≤ max_rules) × (dot ≤ max_right)

-- the number of the rule and the dot of a state's k-th item
abbrev pub core_at : List ℕ → ℕ → ℕ → ℕ
core_at ns s k = core_of (get_or (state_at (table_in ns) s).items k no_item).rule (get_or (state_at (table_in ns) s).items k no_item).dot

-- the places of the first k items of a state are noted; a place below the state's first item is none of this state
pub record Spots (ns places : List ℕ) (s k : ℕ) (spots : List ℕ) : Type 0 where
  pub long : length spots ≡ cores
  pub noted : (j : ℕ) → j < k → get_or places s 0 + 3 ≤ get_or spots (core_at ns s j) 0
  pub found : (c : ℕ) → get_or places s 0 + 3 ≤ get_or spots c 0 →
      (j : ℕ) × (j < k) × (core_at ns s j ≡ c) × (get_or spots c 0 ≡ place_of ns places s j)
  pub below : (c : ℕ) → get_or spots c 0 < place_of ns places s k
