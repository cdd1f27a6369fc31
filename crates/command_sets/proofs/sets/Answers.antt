use native.Mathlib.Omega.{arith}
use mathlib.Core.Path.{refl}
use Rattle.command_sets.proofs.ByJudging.{from_start, zeros-long, from_told, from_more, from-done}
use Rattle.command_sets.proofs.sets.Goals as goal

pub loop-n-init : goal.loop-n-init
loop-n-init c = from_start _ _ refl

pub slice_bounds-judge-end : goal.slice_bounds-judge-end
slice_bounds-judge-end c = zeros-long _ _ _ c.loop-n.invariant (omega arith)

pub returns-then-j-ne-BAD_VERDICTS : goal.returns-then-j-ne-BAD_VERDICTS
returns-then-j-ne-BAD_VERDICTS c = from_told _ _ _ c.loop-n.invariant (omega arith) _ c.judge-j.ensures c.if-j-ne-BAD_VERDICTS.true

pub loop-n-preserved : goal.loop-n-preserved
loop-n-preserved c = from_more _ _ _ c.loop-n.invariant (omega arith) _ c.judge-j.ensures c.if-j-ne-BAD_VERDICTS.false

pub returns : goal.returns
returns c = from-done _ _ _ c.loop-n.invariant (omega arith)
