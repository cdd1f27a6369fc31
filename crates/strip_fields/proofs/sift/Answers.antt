use native.Mathlib.Omega.{arith}
use mathlib.Core.Path.{sym, ◌∙◌}
use Rattle.block.proofs.Steps.{step_field}
use Rattle.strip_fields.proofs.Sifting.{sift-start, sift-end, sift-refused, sift-gone, sift-kept}
use Rattle.strip_fields.proofs.sift.Goals as goal

pub loop-start-init : goal.loop-start-init
loop-start-init c = rw c.fresh-fresh.ensures (sift-start _ _ _ _)

pub slice_bounds-is_removed-count : goal.slice_bounds-is_removed-count
slice_bounds-is_removed-count c = omega (arith, (step_field _ _ _ _ _ _ _ (sym c.in-Field.is ∙ c.next_field.ensures)), c.loop-start.invariant)

pub slice_bounds-is_removed-start : goal.slice_bounds-is_removed-start
slice_bounds-is_removed-start c = omega (arith, (step_field _ _ _ _ _ _ _ (sym c.in-Field.is ∙ c.next_field.ensures)), c.loop-start.invariant)

pub slice_bounds-is_removed-end : goal.slice_bounds-is_removed-end
slice_bounds-is_removed-end c = omega (arith, (step_field _ _ _ _ _ _ _ (sym c.in-Field.is ∙ c.next_field.ensures)), c.loop-start.invariant)

pub overflow_sub-end : goal.overflow_sub-end
overflow_sub-end c = omega (arith, (step_field _ _ _ _ _ _ _ (sym c.in-Field.is ∙ c.next_field.ensures)), c.loop-start.invariant)

pub slice_bounds-is_removed-count-in-Field : goal.slice_bounds-is_removed-count-in-Field
slice_bounds-is_removed-count-in-Field c = omega (arith, (step_field _ _ _ _ _ _ _ (sym c.in-Field.is ∙ c.next_field.ensures)), c.loop-start.invariant)

pub slice_bounds-is_removed-start-in-Field : goal.slice_bounds-is_removed-start-in-Field
slice_bounds-is_removed-start-in-Field c = omega (arith, (step_field _ _ _ _ _ _ _ (sym c.in-Field.is ∙ c.next_field.ensures)), c.loop-start.invariant)

pub slice_bounds-is_removed-end-in-Field : goal.slice_bounds-is_removed-end-in-Field
slice_bounds-is_removed-end-in-Field c = omega (arith, (step_field _ _ _ _ _ _ _ (sym c.in-Field.is ∙ c.next_field.ensures)), c.loop-start.invariant)

pub overflow_sub-removed : goal.overflow_sub-removed
overflow_sub-removed c = omega (arith, (step_field _ _ _ _ _ _ _ (sym c.in-Field.is ∙ c.next_field.ensures)), c.loop-start.invariant)

pub overflow_add-removed : goal.overflow_add-removed
overflow_add-removed c = omega (arith, (step_field _ _ _ _ _ _ _ (sym c.in-Field.is ∙ c.next_field.ensures)), c.loop-start.invariant)

pub overflow_add-fields : goal.overflow_add-fields
overflow_add-fields c = omega (arith, (step_field _ _ _ _ _ _ _ (sym c.in-Field.is ∙ c.next_field.ensures)), c.loop-start.invariant)

pub overflow_add-count : goal.overflow_add-count
overflow_add-count c = omega (arith, (step_field _ _ _ _ _ _ _ (sym c.in-Field.is ∙ c.next_field.ensures)), c.loop-start.invariant)

pub loop-start-smaller-then-is_removed : goal.loop-start-smaller-then-is_removed
loop-start-smaller-then-is_removed c = omega (arith, (step_field _ _ _ _ _ _ _ (sym c.in-Field.is ∙ c.next_field.ensures)), c.loop-start.invariant)

pub loop-start-preserved-then-is_removed : goal.loop-start-preserved-then-is_removed
loop-start-preserved-then-is_removed c = sift-gone _ _ _ _ _ _ _ _ _ _ c.loop-start.invariant _ _ _ _ (sym c.in-Field.is ∙ c.next_field.ensures) _ c.is_removed.ensures _ _ c.keep.ensures c.if-is_removed.true _ c.put_byte-removed.ensures

pub overflow_add-count-else-is_removed : goal.overflow_add-count-else-is_removed
overflow_add-count-else-is_removed c = omega (arith, (step_field _ _ _ _ _ _ _ (sym c.in-Field.is ∙ c.next_field.ensures)), c.loop-start.invariant)

pub loop-start-smaller : goal.loop-start-smaller
loop-start-smaller c = omega (arith, (step_field _ _ _ _ _ _ _ (sym c.in-Field.is ∙ c.next_field.ensures)), c.loop-start.invariant)

pub loop-start-preserved : goal.loop-start-preserved
loop-start-preserved c = sift-kept _ _ _ _ _ _ _ _ _ _ c.loop-start.invariant _ _ _ _ (sym c.in-Field.is ∙ c.next_field.ensures) _ c.is_removed.ensures _ _ c.keep-else-is_removed.ensures c.if-is_removed.false _ c.put_byte.ensures

pub shape_of-marks-in-End : goal.shape_of-marks-in-End
shape_of-marks-in-End c = c.loop-start.invariant.marked.long

pub shape_of-stops-in-End : goal.shape_of-stops-in-End
shape_of-stops-in-End c = c.loop-start.invariant.stopped.long

pub returns-in-End : goal.returns-in-End
returns-in-End c = sift-end _ _ _ _ _ _ _ _ _ _ c.loop-start.invariant (sym c.in-End.is ∙ c.next_field.ensures)

pub shape_of-marks-in-Refused : goal.shape_of-marks-in-Refused
shape_of-marks-in-Refused c = c.loop-start.invariant.marked.long

pub shape_of-stops-in-Refused : goal.shape_of-stops-in-Refused
shape_of-stops-in-Refused c = c.loop-start.invariant.stopped.long

pub returns-in-Refused : goal.returns-in-Refused
returns-in-Refused c = sift-refused _ _ _ _ _ _ _ _ _ _ c.loop-start.invariant _ _ (sym c.in-Refused.is ∙ c.next_field.ensures)
