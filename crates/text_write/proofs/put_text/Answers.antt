use native.Mathlib.Omega.{arith}
use Rattle.text_write.proofs.Texts.{stored_more, stored-done}
use Rattle.text_write.proofs.put_text.Goals as goal

pub loop-j-preserved : goal.loop-j-preserved
loop-j-preserved c = stored_more _ _ _ _ _ c.min-n.result c.loop-j.invariant c.loop-j-test.true (omega arith)

pub returns : goal.returns
returns c = stored-done _ _ _ _ _ _ c.loop-j.invariant c.rest.ensures (omega arith)
