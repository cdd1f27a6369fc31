-- `block::Walk::fresh` meets its contract: a walk over a block starts at the front.
use mathlib.Core.Path.{refl}
use Rattle.block.proofs.Walk.fresh.Goals as goal

pub returns : goal.returns
returns c = refl
