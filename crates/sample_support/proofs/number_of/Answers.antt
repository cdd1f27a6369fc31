-- The turn's digit stands in front of those that are left; none is left at the end.
use Rattle.std.proofs.Common.{rules}
use Rattle.sample_support.proofs.Numbers.{number_more, number-end}
use Rattle.sample_support.proofs.number_of.Goals as goal

pub loop-b-preserved : goal.loop-b-preserved
loop-b-preserved c = record { cut = search rules; same = search number_more }

pub returns : goal.returns
returns c = search (rules, number-end)
