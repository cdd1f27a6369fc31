use borrow.Enum.Refused.{opened}
use native.Mathlib.Omega.{arith}
use mathlib.Core.Path.{sym, ◌∙◌}
use borrow.Author.Rules.{rules}
use Rattle.report_results.proofs.Turns.{writing_start, writing-further, writing_more, written_all}
use Rattle.report_results.proofs.put_properties.Goals as goal

pub loop-type_start-init : goal.loop-type_start-init
loop-type_start-init c = writing_start _ _ _ _ _ c.requires (search rules)

pub shape_of-out-in_default : goal.shape_of-out-in_default
shape_of-out-in_default c = c.loop-type_start.invariant.left.long

pub returns-in_default : goal.returns-in_default
returns-in_default c = written_all _ _ _ _ _ _ _ _ _ c.loop-type_start.invariant _ (opened c.in_default.in_default-own.keys2) c.step_from.ensures

pub loop-type_start-smaller : goal.loop-type_start-smaller
loop-type_start-smaller c = omega (arith, writing-further _ _ _ _ _ _ _ _ _ c.loop-type_start.invariant _ _ _ _ _ _ (sym c.in-Property.is ∙ c.step_from.ensures))

pub loop-type_start-preserved : goal.loop-type_start-preserved
loop-type_start-preserved c = writing_more _ _ _ _ _ _ _ _ _ c.loop-type_start.invariant _ _ _ _ _ _ (sym c.in-Property.is ∙ c.step_from.ensures) (search rules) _ c.knows_ptype-known.ensures _ _ c.put_property-n.ensures _ c.space_end-a.ensures
