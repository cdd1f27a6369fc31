-- `strip_copy::put_unmarked` meets its contract: at each turn what was written and what is left make the whole.
use Rattle.strip_copy.proofs.Unmarked.{Cutting}
use Rattle.strip_copy.proofs.put_unmarked.Given as goal

abbrev pub invariant-loop-k : goal.invariant-loop-k
invariant-loop-k l = Cutting l.s l.stops l.marks l.initial.out l.out l.start l.k l.from l.at l.to
