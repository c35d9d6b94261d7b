-- `Body::read_states` meets its contract: the loop reads one state after the other.
use Rattle.table.proofs.StatesRead.{StatesDone}
use Rattle.table.proofs.states.Body.read_states.Given as goal

abbrev pub invariant-loop-s : goal.invariant-loop-s
invariant-loop-s l =
    StatesDone l.self.numbers.now l.self.lengths.now l.self.sizes l.fn.from l.initial.state_at l.initial.sets l.state_at l.sets l.reached l.s
