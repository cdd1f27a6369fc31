use native.Mathlib.Omega.{arith}
use Rattle.text_write.proofs.Texts.{lower-more, lower-done}
use Rattle.text_write.proofs.put_lower.Goals as goal

pub loop-j-preserved : goal.loop-j-preserved
loop-j-preserved c = lower-more _ _ _ _ _ c.min-n.result _ c.loop-j.invariant c.loop-j-test.true (omega arith) c.lower.ensures

pub returns : goal.returns
returns c = lower-done _ _ _ _ _ _ c.loop-j.invariant c.rest.ensures (omega arith)
