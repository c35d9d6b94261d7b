-- What a table with the look-ahead sets of all its items is: the table of its numbers, its grammar, and the item that
-- stands at a place.
use Rattle.std.specs.Prelude.{ℕ}
use Rattle.theory.specs.Grammar.{Grammar}
use Rattle.theory.specs.Table.{Table, Item}
use Rattle.table.specs.declared.aheads.Noted.{Noted}
use Rattle.table.specs.Aheads.{SetNoted}
use Rattle.table.specs.Items.{item_in, ItemHeld}
use Rattle.table.specs.Places.{table_in}

-- the table of the numbers
abbrev pub table_of : Noted → Table
table_of t = table_in t.table.now.numbers.now

-- its grammar
abbrev pub grammar_of : Noted → Grammar
grammar_of t = (table_in t.table.now.numbers.now).grammar

-- the item that stands at a place
abbrev pub item_of : Noted → ℕ → Item
item_of t at = item_in t.table.now.numbers.now at

-- the line of an item within the ranges stands at the place, and its look-ahead set is noted
pub record ItemNoted (t : Noted) (at : ℕ) : Type 0 where
  pub held : ItemHeld t.table.now.numbers.now at
  pub set : SetNoted t.table.now.numbers.now t.sets.now at
