use native.Mathlib.Omega.{arith}
use Rattle.block_field_ends.proofs.Steps.{onward-none, onward-more, onward-all}
use Rattle.block_field_ends.proofs.has_break.Goals as goal

pub loop-j-init : goal.loop-j-init
loop-j-init c = λ e. onward-none _ _

pub loop-j-preserved : goal.loop-j-preserved
loop-j-preserved c = onward-more _ _ _ _ _ c.loop-j.invariant (omega arith) c.breaks-hit.ensures

pub returns : goal.returns
returns c = λ e. onward-all _ _ _ _ (c.loop-j.invariant e) (omega arith)
