-- `result_values::domains::domain_end` meets its contract: from each place of the loop on there are labels just where the whole run is a domain,
-- and a dot was passed only where the place that was asked for is inside.
use Rattle.std.proofs.Common.{◌≡◌, ◌<◌, true, length}
use Rattle.result_values.proofs.DomainLabels.{Labels}
use Rattle.result_values.proofs.domains.domain_end.Given as goal

abbrev pub invariant-loop-i : goal.invariant-loop-i
invariant-loop-i l = record { labels : Labels l.s l.at l.i l.last l.parted; inside : l.parted ≡ true → l.at < length l.s }
