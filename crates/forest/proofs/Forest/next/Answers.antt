-- `Forest::next` meets its contract by the laws of a token.
use Rattle.forest.proofs.Tokens.{take_acts, take_go, take_phase, take_shift, taken}
use Rattle.forest.proofs.Forest.next.Goals as goal

pub actions-requires : goal.actions-requires
actions-requires c = take_acts c.requires

pub targets-requires : goal.targets-requires
targets-requires c = take_go c.requires

pub phase-steps-requires : goal.phase-steps-requires
phase-steps-requires c = take_phase c.requires c.actions.ensures

pub shift-requires : goal.shift-requires
shift-requires c = take_shift c.requires c.actions.ensures c.phase-steps.ensures c.targets.ensures

pub returns : goal.returns
returns c = taken c.requires c.actions.ensures c.phase-steps.ensures c.targets.ensures c.shift.ensures c.get.ensures.0
