-- `result_values::domains::has_single_dots` meets its contract: from each place of the loop on the dots are as sound as from the front.
use Rattle.result_values.proofs.DomainLabels.{Dots}
use Rattle.result_values.proofs.domains.has_single_dots.Given as goal

abbrev pub invariant-loop-b : goal.invariant-loop-b
invariant-loop-b l = Dots l.l l.b-index l.dot
