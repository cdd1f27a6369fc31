-- Where none of the bytes so far may fail, all of them are a run.
use Rattle.std.proofs.Common.{◌≡◌, false, ◌≤◌, length}
use Rattle.base_readers.specs.Readers.{run}
use Rattle.base_readers.specs.Places.{Reaches}
use Rattle.base_runs.proofs.any_may_fail.Given as goal

abbrev pub invariant-loop-b : goal.invariant-loop-b
invariant-loop-b g l = (l.b-index ≤ length l.bytes) × (l.hit ≡ false → Reaches (run (g.T.ByteTest.passes l.test)) l.bytes 0 l.b-index)
