use Rattle.ownlist_lines.proofs.Seeking.{seek-end, seek_hit, seek-more}
use Rattle.ownlist_lines.proofs.is_line.Goals as goal

pub returns-then-is_span : goal.returns-then-is_span
returns-then-is_span c = seek_hit _ _ _ _ _ c.loop-end.invariant c.loop-end-test.true _ c.end_within-e.ensures _ c.is_span.ensures c.if-is_span.true

pub loop-end-preserved : goal.loop-end-preserved
loop-end-preserved c = seek-more _ _ _ _ _ c.loop-end.invariant c.loop-end-test.true _ c.end_within-e.ensures _ c.is_span.ensures c.if-is_span.false

pub returns : goal.returns
returns c = seek-end _ _ _ _ _ c.loop-end.invariant c.loop-end-test.false
