use native.Mathlib.Omega.{arith}
use Rattle.text_write.proofs.Bars.{passed-all, passed-last, passed-more}
use Rattle.text_write.proofs.phrases.start.Goals as goal

pub returns-then-bar-all : goal.returns-then-bar-all
returns-then-bar-all c = passed-last _ _ _ _ c.loop.invariant (omega arith) _ c.run_end-bar.ensures c.if-bar-all.true

pub loop-preserved : goal.loop-preserved
loop-preserved c = passed-more _ _ _ _ c.loop.invariant (omega arith) _ c.run_end-bar.ensures c.if-bar-all.false (omega arith)

pub returns : goal.returns
returns c = passed-all _ _ _ _ c.loop.invariant (omega arith)
