-- The turn's byte, shown, is the text's first part; nothing is left at the end.
use Rattle.std.proofs.Common.{rules}
use Rattle.sample_support.proofs.Fills.{show-more, show-end}
use Rattle.sample_support.proofs.shown.Goals as goal

pub loop-b-preserved : goal.loop-b-preserved
loop-b-preserved c = search show-more

pub returns-clause-filled : goal.returns-clause-filled
returns-clause-filled c = search (rules, show-end)
