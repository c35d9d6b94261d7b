-- The limits of a table. The associated constants of `Shape` have these values: the contract of `Shape::limits` ties them.
use Rattle.std.specs.Prelude.{ℕ, ◌+◌}

-- kinds of tokens
abbrev pub max_terms : ℕ
max_terms = 63

-- nonterminals
abbrev pub max_nonterms : ℕ
max_nonterms = 32

-- rules
abbrev pub max_rules : ℕ
max_rules = 64

-- symbols on a right side
abbrev pub max_right : ℕ
max_right = 8

-- states
abbrev pub max_states : ℕ
max_states = 128

-- items of a state
abbrev pub max_items : ℕ
max_items = 200

-- go lines of a state
abbrev pub max_gos : ℕ
max_gos = 96

-- numbers of a table
abbrev pub max_numbers : ℕ
max_numbers = 60000

-- bytes of a sheet
abbrev pub max_bytes : ℕ
max_bytes = 60000

-- tokens of a tail
abbrev pub max_tail : ℕ
max_tail = 4096

-- words of room for a node
abbrev pub stride : ℕ
stride = 8

-- numbers of a line that fits: an item's rule and dot, the kinds and the end mark
abbrev pub max_line : ℕ
max_line = 3 + max_terms
