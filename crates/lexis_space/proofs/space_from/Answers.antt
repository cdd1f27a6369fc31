use Rattle.base_readers.proofs.Loops.{reaches-start}
use Rattle.lexis_comments.proofs.Loops.{at-comment, past-comment, past-comment-less, at_item, past-item, past-item-less}
use Rattle.lexis_space.proofs.Loops.{blank-no-open}
use Rattle.lexis_classes.proofs.Loops.{item-turn}
use Rattle.lexis_space.proofs.space_from.Goals as goal

pub loop-f-init : goal.loop-f-init
loop-f-init c = reaches-start

pub returns-then-f-e : goal.returns-then-f-e
returns-then-f-e c = search (at-comment, blank-no-open)

pub loop-f-smaller-then-is_at : goal.loop-f-smaller-then-is_at
loop-f-smaller-then-is_at c = search past-comment-less

pub loop-f-preserved-then-is_at : goal.loop-f-preserved-then-is_at
loop-f-preserved-then-is_at c = search (past-comment, blank-no-open)

pub returns-then-n-eq0 : goal.returns-then-n-eq0
returns-then-n-eq0 c = at_item _ _ blank-no-open _ _ _ _ c.loop-f.invariant c.run_end-e.ensures _ c.is_at.ensures c.if-is_at.false _ c.item_at-n.ensures c.if-n-eq0.true

pub overflow_add-i : goal.overflow_add-i
overflow_add-i c = search item-turn

pub loop-f-smaller : goal.loop-f-smaller
loop-f-smaller c = search past-item-less

pub loop-f-preserved : goal.loop-f-preserved
loop-f-preserved c = search (past-item, blank-no-open)
