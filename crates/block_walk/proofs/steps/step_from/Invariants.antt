-- `block_walk::steps::step_from` meets its contract: what is left of the search at each field is what it was at the first.
use Prim.Native.Nat.{◌-◌}
use lib.ListN.{length}
use Rattle.block_walk.proofs.Searching.{Searching}
use Rattle.block_walk.proofs.steps.step_from.Given as goal

abbrev pub invariant-loop-start : goal.invariant-loop-start
invariant-loop-start l = Searching l.block l.from l.walk.at l.walk.count

abbrev pub decreases-loop-start : goal.decreases-loop-start
decreases-loop-start l = length l.block - l.walk.at
