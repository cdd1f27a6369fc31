use Rattle.arc_answers.proofs.Verdicts.{oldest-found, oldest-less, oldest-none}
use Rattle.arc_answers.proofs.oldest_pass.Goals as goal

pub returns-then-last-eq0 : goal.returns-then-last-eq0
returns-then-last-eq0 c = oldest-found _ _ _ _ c.in-Some.ensures.cases c.loop-last.invariant c.if-last-eq0.true

pub loop-last-preserved : goal.loop-last-preserved
loop-last-preserved c = oldest-less _ _ _ _ c.in-Some.ensures.cases c.loop-last.invariant c.if-last-eq0.false

pub returns : goal.returns
returns c = oldest-none _ _ c.in_default.ensures.cases c.loop-last.invariant
