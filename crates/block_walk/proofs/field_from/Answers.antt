-- `block_walk::field_from` meets its contract: it is a step.
use Rattle.block_walk.proofs.field_from.Goals as goal

pub returns : goal.returns
returns c = c.step_from.ensures
