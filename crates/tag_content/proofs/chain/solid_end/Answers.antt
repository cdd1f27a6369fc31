use Rattle.tag_content.proofs.ChainValues.{solid-on, solid-off, solid-out}
use Rattle.tag_content.proofs.chain.solid_end.Goals as goal

pub returns-then-not-is_white : goal.returns-then-not-is_white
returns-then-not-is_white c = solid-off _ _ _ _ c.in-Some.ensures.cases c.loop-last.invariant _ c.is_white.ensures c.if-not-is_white.true

pub loop-last-preserved : goal.loop-last-preserved
loop-last-preserved c = solid-on _ _ _ _ c.in-Some.ensures.cases c.loop-last.invariant _ c.is_white.ensures c.if-not-is_white.false

pub returns : goal.returns
returns c = solid-out _ _ c.in_default.ensures.cases c.loop-last.invariant
