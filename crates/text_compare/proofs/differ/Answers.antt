use native.Mathlib.Omega.{arith}
use Rattle.text_compare.proofs.Comparing.{compared-more}
use Rattle.text_compare.proofs.differ.Goals as goal

pub loop-j-preserved : goal.loop-j-preserved
loop-j-preserved c = compared-more _ _ _ _ _ c.loop-j.invariant (omega arith) (omega arith) _ _ c.lower.ensures c.lower-in-loop-j.ensures
