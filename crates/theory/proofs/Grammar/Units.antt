-- Unit rings in document 01's own words: "comes back to itself through rules whose right side is one nonterminal". `UnitTo` asks only for one
-- symbol; to a nonterminal the two are the same, since every symbol on the way but the last is a left side.
use Rattle.std.specs.Prelude.{ℕ}
use Rattle.theory.specs.Grammar.{Grammar, Nonterm, UnitTo, one, then, WellFormed}
use Rattle.theory.specs.Grammar.Units.{NontermTo, by_rule, and_on}

-- what comes to something is a nonterminal
unit_left : {g : Grammar} {a b : ℕ} → WellFormed g → UnitTo g a b → Nonterm g a
unit_left W (one r m e) = W.lefts r m
unit_left W (then u v) = unit_left W u

-- between nonterminals the two say the same
pub units_literal : {g : Grammar} {a b : ℕ} → WellFormed g → Nonterm g b → UnitTo g a b → NontermTo g a b
units_literal W n (one r m e) = by_rule r m e n
units_literal W n (then u v) = and_on (units_literal W (unit_left W v) u) (units_literal W n v)

-- and so the other way
pub literal_units : {g : Grammar} {a b : ℕ} → NontermTo g a b → UnitTo g a b
literal_units (by_rule r m e n) = one r m e
literal_units (and_on u v) = then (literal_units u) (literal_units v)
