-- One turn and the end, by the definition's one step.
use Rattle.std.proofs.Common.{rules}
use Rattle.sample_sums.proofs.Sums.{sums-more, sums-end}
use Rattle.sample_sums.proofs.adler.Goals as goal

pub loop-b-preserved : goal.loop-b-preserved
loop-b-preserved c = record { low = search rules; high = search rules; sum = search sums-more }

pub returns : goal.returns
returns c = search (rules, sums-end)
