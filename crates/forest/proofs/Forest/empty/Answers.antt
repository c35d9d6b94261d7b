-- `Forest::empty` writes the words that `emptied` says.
use Rattle.forest.specs.Starts.{emptied}
use Rattle.forest.specs.Words.{poke}
use borrow.Author.Tests.{lt-ltb, le-ltb}
use mathlib.Core.Path.{refl}
use Rattle.forest.proofs.Forest.empty.Goals as goal

pub returns-then-room-ge-STRIDE : goal.returns-then-room-ge-STRIDE
unfolding emptied poke
returns-then-room-ge-STRIDE c = (simp (le-ltb _ _ c.if-room-ge-STRIDE.true), refl, refl)

pub returns-else-room-ge-STRIDE : goal.returns-else-room-ge-STRIDE
unfolding emptied
returns-else-room-ge-STRIDE c = (simp (lt-ltb _ _ c.if-room-ge-STRIDE.false), refl, refl)
