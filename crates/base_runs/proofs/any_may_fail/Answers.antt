use Rattle.std.proofs.Common.{arith}
use Rattle.base_readers.proofs.Loops.{run_out}
use Rattle.base_runs.proofs.Runs.{all-on}
use Rattle.base_runs.proofs.any_may_fail.Goals as goal

pub loop-b-preserved : goal.loop-b-preserved
loop-b-preserved g c = (omega arith, all-on _ _ _ _ _ c.loop-b.invariant.1 c.loop-b-test.true c.may_fail-hit.ensures)

pub returns : goal.returns
returns g c = λ e. omega (arith, run_out _ _ _ _ (c.loop-b.invariant.1 e) c.loop-b-test.false, c.loop-b.invariant.0)
