-- `get` meets its contract: the word lies in the room, and nothing wraps.
use Rattle.forest.specs.Words.{at}
use Rattle.std.proofs.Common.{rules}
use Rattle.forest.proofs.words.get.Goals as goal

pub returns : goal.returns
unfolding at
returns c = search rules
