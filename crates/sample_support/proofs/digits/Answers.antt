-- The turn's digit is the text's first part; nothing is left at a byte that is no digit, and at the end.
use Rattle.std.proofs.Common.{rules}
use Rattle.sample_support.proofs.Fills.{digits-off, digits_more, digits-end}
use Rattle.sample_support.proofs.digits.Goals as goal

pub returns-then-not-is_within-clause-filled : goal.returns-then-not-is_within-clause-filled
returns-then-not-is_within-clause-filled c = search (rules, digits-off)

pub loop-b-preserved : goal.loop-b-preserved
loop-b-preserved c = search digits_more

pub returns-clause-filled : goal.returns-clause-filled
returns-clause-filled c = search (rules, digits-end)
