use Rattle.std.proofs.Common.{arith}
use Rattle.base_readers.proofs.Loops.{reaches-start, there-fits}
use Rattle.lexis_comments.proofs.Loops.{no-level, comment-opens-not, comment-closes, comment-closes-not, comment-no-open, at-comment, past-comment, past-comment-less, at_item, past-item, past-item-less}
use Rattle.lexis_classes.proofs.Loops.{item-turn}
use Rattle.lexis_comments.proofs.+comment_from_content_from.Goals as goal

pub comment_from-returns-then-depth-eq0 : goal.comment_from-returns-then-depth-eq0
comment_from-returns-then-depth-eq0 t c = search no-level

pub comment_from-overflow_add-at : goal.comment_from-overflow_add-at
comment_from-overflow_add-at t c = search there-fits

pub comment_from-overflow_sub-depth : goal.comment_from-overflow_sub-depth
comment_from-overflow_sub-depth t c = omega arith

pub comment_from-overflow_add-result : goal.comment_from-overflow_add-result
comment_from-overflow_add-result t c = search there-fits

pub comment_from-returns-then-is_at-2 : goal.comment_from-returns-then-is_at-2
comment_from-returns-then-is_at-2 t c =
    comment-closes c.args.s.now c.args.c.at c.args.c.depth c.if-depth-eq0.false _ c.is_at.ensures c.if-is_at.true _ c.content_from-e.ensures _ c.is_at-then-is_at.ensures c.if-is_at-2.true

pub comment_from-returns-else-is_at-2 : goal.comment_from-returns-else-is_at-2
comment_from-returns-else-is_at-2 t c = search comment-closes-not

pub comment_from-returns-else-is_at : goal.comment_from-returns-else-is_at
comment_from-returns-else-is_at t c = search comment-opens-not

pub content_from-loop-f-init : goal.content_from-loop-f-init
content_from-loop-f-init t c = reaches-start

pub content_from-returns-then-f-e : goal.content_from-returns-then-f-e
content_from-returns-then-f-e t c = search (at-comment, comment-no-open)

pub content_from-loop-f-smaller-then-is_at : goal.content_from-loop-f-smaller-then-is_at
content_from-loop-f-smaller-then-is_at t c = search past-comment-less

pub content_from-loop-f-preserved-then-is_at : goal.content_from-loop-f-preserved-then-is_at
content_from-loop-f-preserved-then-is_at t c = search (past-comment, comment-no-open)

pub content_from-returns-then-n-eq0 : goal.content_from-returns-then-n-eq0
content_from-returns-then-n-eq0 t c = search (at_item, comment-no-open)

pub content_from-overflow_add-i : goal.content_from-overflow_add-i
content_from-overflow_add-i t c = search item-turn

pub content_from-loop-f-smaller : goal.content_from-loop-f-smaller
content_from-loop-f-smaller t c = search past-item-less

pub content_from-loop-f-preserved : goal.content_from-loop-f-preserved
content_from-loop-f-preserved t c = search (past-item, comment-no-open)
