use native.Mathlib.Omega.{arith}
use borrow.Author.Rules.{rules}
use mathlib.Core.Path.{sym, ◌∙◌}
use Rattle.block.proofs.Steps.{step_field}
use Rattle.command_log.proofs.LogLines.{logging-start, logging-end, logging-refused, logging-field}
use Rattle.command_log.proofs.put_lines.Goals as goal

pub loop-start-init : goal.loop-start-init
loop-start-init c = rw c.fresh-fresh.ensures (logging-start _ _ _)

pub overflow_add-count : goal.overflow_add-count
overflow_add-count c = omega (arith, (step_field _ _ _ _ _ _ _ (sym c.in-Field.is ∙ c.next_field.ensures)), c.loop-start.invariant)

pub slice_bounds-put_line-count : goal.slice_bounds-put_line-count
slice_bounds-put_line-count c = omega (arith, (step_field _ _ _ _ _ _ _ (sym c.in-Field.is ∙ c.next_field.ensures)), c.loop-start.invariant)

pub slice_bounds-put_line-start : goal.slice_bounds-put_line-start
slice_bounds-put_line-start c = omega (arith, (step_field _ _ _ _ _ _ _ (sym c.in-Field.is ∙ c.next_field.ensures)), c.loop-start.invariant)

pub slice_bounds-put_line-end : goal.slice_bounds-put_line-end
slice_bounds-put_line-end c = omega (arith, (step_field _ _ _ _ _ _ _ (sym c.in-Field.is ∙ c.next_field.ensures)), c.loop-start.invariant)

pub loop-start-smaller : goal.loop-start-smaller
loop-start-smaller c = omega (arith, (step_field _ _ _ _ _ _ _ (sym c.in-Field.is ∙ c.next_field.ensures)), c.loop-start.invariant)

pub loop-start-preserved : goal.loop-start-preserved
loop-start-preserved c = logging-field _ _ _ _ _ _ _ c.loop-start.invariant _ _ _ _ (sym c.in-Field.is ∙ c.next_field.ensures) (search rules) _ c.byte-mark.ensures _ _ c.put_line-to.ensures

pub shape_of-out-in-End : goal.shape_of-out-in-End
shape_of-out-in-End c = c.loop-start.invariant.left.long

pub returns-in-End : goal.returns-in-End
returns-in-End c = logging-end _ _ _ _ _ _ _ c.loop-start.invariant (sym c.in-End.is ∙ c.next_field.ensures)

pub shape_of-out-in-Refused : goal.shape_of-out-in-Refused
shape_of-out-in-Refused c = c.loop-start.invariant.left.long

pub returns-in-Refused : goal.returns-in-Refused
returns-in-Refused c = logging-refused _ _ _ _ _ _ _ c.loop-start.invariant _ _ (sym c.in-Refused.is ∙ c.next_field.ensures)
