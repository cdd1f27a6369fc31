use native.Mathlib.Omega.{arith}
use mathlib.Core.Path.{refl, sym, ◌∙◌}
use Rattle.base_sequences.proofs.Splices.{put-long}
use Rattle.ownlist.proofs.Owners.{ask-start, ask-all, ask-ours, ask-unreadable, ask-more, last-inside}
use Rattle.ownlist.proofs.whose_spelled.Goals as goal

pub loop-ends-init : goal.loop-ends-init
loop-ends-init c = ask-start _ _

pub returns-then-n-le-ENTRIES : goal.returns-then-n-le-ENTRIES
returns-then-n-le-ENTRIES c = ask-all _ _ _ c.loop-ends.invariant _ _ _ c.line_ends-n.ensures (omega arith) _ c.whose_among.ensures

pub returns-in-Ours : goal.returns-in-Ours
returns-in-Ours c = ask-ours _ _ _ c.loop-ends.invariant _ _ _ c.line_ends-n.ensures 63 refl (omega arith) (sym c.in-Ours.is ∙ c.whose_among-in-loop-ends.ensures)

pub returns-in-Unreadable : goal.returns-in-Unreadable
returns-in-Unreadable c = ask-unreadable _ _ _ c.loop-ends.invariant _ _ _ c.line_ends-n.ensures 63 refl (omega arith) (sym c.in-Unreadable.is ∙ c.whose_among-in-loop-ends.ensures)

pub bounds-ends : goal.bounds-ends
bounds-ends c = omega (arith, put-long c.line_ends-n.ensures)

pub overflow_add-at : goal.overflow_add-at
overflow_add-at c = omega (arith, last-inside _ _ _ c.loop-ends.invariant _ _ _ c.line_ends-n.ensures 63 refl (omega arith))

pub overflow_add-at-in-Others : goal.overflow_add-at-in-Others
overflow_add-at-in-Others c = omega (arith, last-inside _ _ _ c.loop-ends.invariant _ _ _ c.line_ends-n.ensures 63 refl (omega arith))

pub loop-ends-smaller : goal.loop-ends-smaller
loop-ends-smaller c = omega (arith, last-inside _ _ _ c.loop-ends.invariant _ _ _ c.line_ends-n.ensures 63 refl (omega arith))

pub loop-ends-preserved : goal.loop-ends-preserved
loop-ends-preserved c = ask-more _ _ _ c.loop-ends.invariant _ _ _ c.line_ends-n.ensures 63 refl (omega arith) (sym c.in-Others.is ∙ c.whose_among-in-loop-ends.ensures)
