-- `put` meets its contract: the word lies in the room, and nothing wraps.
use Rattle.forest.specs.Words.{poke}
use Rattle.std.proofs.Common.{rules}
use Rattle.forest.proofs.words.put.Goals as goal

pub returns : goal.returns
unfolding poke
returns c = search rules
