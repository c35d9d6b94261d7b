-- `grammar::member` meets its contract: by whether the symbol is above the end mark.
use mathlib.Core.Path.{refl}
use borrow.Author.Tests.{le-leb, lt-leb}
use Rattle.table.specs.Notions.{member}
use Rattle.table.proofs.grammar.member.Goals as goal

pub returns-then-x-terms : goal.returns-then-x-terms
unfolding member
returns-then-x-terms c = rw (le-leb _ _ c.if-x-terms.true, member) refl

pub returns : goal.returns
unfolding member
returns c = rw (lt-leb _ _ c.if-x-terms.false, member) c.has.ensures
