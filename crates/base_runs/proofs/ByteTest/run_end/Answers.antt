use Rattle.base_readers.proofs.Loops.{run_on, run-off, run_out}
use Rattle.base_runs.proofs.ByteTest.run_end.Goals as goal

pub returns-then-not-passes : goal.returns-then-not-passes
returns-then-not-passes g c = run-off _ _ _ _ _ c.loop-i.invariant c.loop-i-test.true c.passes.ensures c.if-not-passes.true

pub loop-i-preserved : goal.loop-i-preserved
loop-i-preserved g c = run_on _ _ _ _ _ c.loop-i.invariant c.loop-i-test.true c.passes.ensures c.if-not-passes.false

pub returns : goal.returns
returns g c = run_out _ _ _ _ c.loop-i.invariant c.loop-i-test.false
