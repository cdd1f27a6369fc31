use Rattle.std.proofs.Common.{arith}
use Rattle.base_runs.proofs.Runs.{run-across}
use Rattle.base_runs.proofs.wide_run_end.Goals as goal

pub loop-i-preserved : goal.loop-i-preserved
loop-i-preserved g c = run-across _ _ _ _ _ c.loop-i.invariant (omega (arith, c.rest.ensures, c.if-rest.true, c.loop-i-test.true)) (c.any_may_fail.ensures c.if-any_may_fail.false)
