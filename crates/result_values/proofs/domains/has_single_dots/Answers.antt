use native.Mathlib.Omega.{arith}
use Rattle.result_values.proofs.DomainLabels.{dots-on, dots-off, dots-out}
use Rattle.result_values.proofs.domains.has_single_dots.Goals as goal

pub returns-then-is_doubled : goal.returns-then-is_doubled
returns-then-is_doubled c = search dots-off

pub loop-b-preserved : goal.loop-b-preserved
loop-b-preserved c = dots-on _ _ _ c.loop-b.invariant (omega arith) _ c.is_doubled.ensures c.if-is_doubled.false

pub returns : goal.returns
returns c = search dots-out
