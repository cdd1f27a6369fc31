-- `command_sets::sets` meets its contract: what is not refused tells the sets, and each refusal that there are more of them.
use Rattle.command_sets.proofs.ByJudging.{From}
use Rattle.command_sets.proofs.sets.Given as goal

abbrev pub invariant-loop-n : goal.invariant-loop-n
invariant-loop-n l = From l.block l.zeros l.n
