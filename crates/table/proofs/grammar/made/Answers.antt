-- `grammar::made` meets its contract: by whether the symbol is a kind.
use mathlib.Core.Path.{refl}
use borrow.Author.Tests.{lt-ltb, le-ltb}
use Rattle.table.specs.Notions.{made}
use Rattle.table.proofs.grammar.made.Goals as goal

pub returns-then-x-terms : goal.returns-then-x-terms
unfolding made
returns-then-x-terms c = rw (lt-ltb _ _ c.if-x-terms.true, made) refl

pub returns : goal.returns
unfolding made
returns c = rw (le-ltb _ _ c.if-x-terms.false, made) c.member.ensures
