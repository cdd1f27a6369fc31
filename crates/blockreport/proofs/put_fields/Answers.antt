use native.Mathlib.Omega.{arith}
use mathlib.Core.Path.{refl, sym, ◌∙◌}
use Rattle.block.proofs.Steps.{step_field}
use Rattle.blockreport.proofs.Passes.{telling-start, telling-end, telling-refused, telling-field}
use Rattle.blockreport.proofs.put_fields.Goals as goal

pub loop-start-init : goal.loop-start-init
loop-start-init c = rw c.fresh-fresh.ensures (telling-start _ _ _ _)

pub overflow_add-count : goal.overflow_add-count
overflow_add-count c = omega (arith, (step_field _ _ _ _ _ _ _ (sym c.in-Field.is ∙ c.next_field.ensures)), c.loop-start.invariant)

pub slice_bounds-put_field-count : goal.slice_bounds-put_field-count
slice_bounds-put_field-count c = omega (arith, (step_field _ _ _ _ _ _ _ (sym c.in-Field.is ∙ c.next_field.ensures)), c.loop-start.invariant)

pub slice_bounds-put_field-start : goal.slice_bounds-put_field-start
slice_bounds-put_field-start c = omega (arith, (step_field _ _ _ _ _ _ _ (sym c.in-Field.is ∙ c.next_field.ensures)), c.loop-start.invariant)

pub slice_bounds-put_field-end : goal.slice_bounds-put_field-end
slice_bounds-put_field-end c = omega (arith, (step_field _ _ _ _ _ _ _ (sym c.in-Field.is ∙ c.next_field.ensures)), c.loop-start.invariant)

pub overflow_sub-end : goal.overflow_sub-end
overflow_sub-end c = omega (arith, (step_field _ _ _ _ _ _ _ (sym c.in-Field.is ∙ c.next_field.ensures)), c.loop-start.invariant)

pub slice_bounds-put_field-count-in-Field : goal.slice_bounds-put_field-count-in-Field
slice_bounds-put_field-count-in-Field c = omega (arith, (step_field _ _ _ _ _ _ _ (sym c.in-Field.is ∙ c.next_field.ensures)), c.loop-start.invariant)

pub slice_bounds-put_field-start-in-Field : goal.slice_bounds-put_field-start-in-Field
slice_bounds-put_field-start-in-Field c = omega (arith, (step_field _ _ _ _ _ _ _ (sym c.in-Field.is ∙ c.next_field.ensures)), c.loop-start.invariant)

pub slice_bounds-put_field-end-in-Field : goal.slice_bounds-put_field-end-in-Field
slice_bounds-put_field-end-in-Field c = omega (arith, (step_field _ _ _ _ _ _ _ (sym c.in-Field.is ∙ c.next_field.ensures)), c.loop-start.invariant)

pub loop-start-smaller : goal.loop-start-smaller
loop-start-smaller c = omega (arith, (step_field _ _ _ _ _ _ _ (sym c.in-Field.is ∙ c.next_field.ensures)), c.loop-start.invariant)

pub loop-start-preserved : goal.loop-start-preserved
loop-start-preserved c = telling-field _ _ _ _ _ _ _ _ c.loop-start.invariant _ _ _ _ (sym c.in-Field.is ∙ c.next_field.ensures) c.requires _ _ _ (c.put_field-to.ensures.value, c.put_field-to.ensures.out_after) refl

pub shape_of-out-in-End : goal.shape_of-out-in-End
shape_of-out-in-End c = c.loop-start.invariant.left.long

pub returns-in-End : goal.returns-in-End
returns-in-End c = telling-end _ _ _ _ _ _ _ _ c.loop-start.invariant (sym c.in-End.is ∙ c.next_field.ensures)

pub shape_of-out-in-Refused : goal.shape_of-out-in-Refused
shape_of-out-in-Refused c = c.loop-start.invariant.left.long

pub returns-in-Refused : goal.returns-in-Refused
returns-in-Refused c = telling-refused _ _ _ _ _ _ _ _ c.loop-start.invariant _ _ (sym c.in-Refused.is ∙ c.next_field.ensures)
