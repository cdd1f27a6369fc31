-- Nothing is left, or the first line ends at LF, or where all ends.
use Rattle.explain.proofs.Lines.{nothing-left, line-ended, line-unended}
use Rattle.explain.proofs.split_line.Goals as goal

pub returns-then-s-eq0-clause-none : goal.returns-then-s-eq0-clause-none
returns-then-s-eq0-clause-none c = nothing-left _ c.if-s-eq0.true

pub returns-then-e-s-clause-line : goal.returns-then-e-s-clause-line
returns-then-e-s-clause-line c = line-ended _ c.if-s-eq0.false _ c.until-e.ensures c.if-e-s.true

pub returns-clause-line : goal.returns-clause-line
returns-clause-line c = line-unended _ c.if-s-eq0.false _ c.until-e.ensures c.if-e-s.false
