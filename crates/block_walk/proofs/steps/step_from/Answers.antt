use native.Mathlib.Omega.{arith}
use mathlib.Core.Path.{sym, ◌∙◌}
use Rattle.block.proofs.Steps.{step_field}
use Rattle.block_walk.proofs.Searching.{search-long, search-start, search-end, search-refused, search-found, search-on}
use Rattle.block_walk.proofs.steps.step_from.Goals as goal

pub returns-then-too_long : goal.returns-then-too_long
returns-then-too_long c = search-long _ _ _ c.too_long.ensures c.if-too_long.true

pub loop-start-init : goal.loop-start-init
loop-start-init c = rw c.fresh-walk.ensures (search-start _ _ _ c.too_long.ensures c.if-too_long.false)

pub returns-then-from-start : goal.returns-then-from-start
returns-then-from-start c = search-found _ _ _ _ c.loop-start.invariant _ _ _ _ (sym c.in-Field.is ∙ c.next_field.ensures) (omega (arith, c.if-from-start.true))

pub overflow_add-walk : goal.overflow_add-walk
overflow_add-walk c = omega (arith, (step_field _ _ _ _ _ _ _ (sym c.in-Field.is ∙ c.next_field.ensures)), c.loop-start.invariant)

pub loop-start-smaller : goal.loop-start-smaller
loop-start-smaller c = omega (arith, (step_field _ _ _ _ _ _ _ (sym c.in-Field.is ∙ c.next_field.ensures)), c.loop-start.invariant)

pub loop-start-preserved : goal.loop-start-preserved
loop-start-preserved c = search-on _ _ _ _ c.loop-start.invariant _ _ _ _ (sym c.in-Field.is ∙ c.next_field.ensures) (omega (arith, c.if-from-start.false))

pub returns-in-End : goal.returns-in-End
returns-in-End c = search-end _ _ _ _ c.loop-start.invariant (sym c.in-End.is ∙ c.next_field.ensures)

pub returns-in-Refused : goal.returns-in-Refused
returns-in-Refused c = search-refused _ _ _ _ c.loop-start.invariant _ _ (sym c.in-Refused.is ∙ c.next_field.ensures)
