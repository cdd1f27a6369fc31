-- From each place of the loop the run ends where it ends from the first.
use Rattle.std.proofs.Common.{◌-◌, length}
use Rattle.base_readers.specs.Readers.{run}
use Rattle.base_readers.specs.Places.{Reaches}
use Rattle.base_runs.proofs.ByteTest.run_end.Given as goal

abbrev pub invariant-loop-i : goal.invariant-loop-i
invariant-loop-i g l = Reaches (run (g.Self.ByteTest.passes l.self)) l.s l.at l.i

abbrev pub decreases-loop-i : goal.decreases-loop-i
decreases-loop-i g l = length l.s - l.i
