-- `arc::read_sets` meets its contract: at each field the rest of the block is gathered to what the whole is.
use Prim.Native.Nat.{◌-◌}
use lib.ListN.{length}
use Rattle.arc.proofs.Noting.{Gathering}
use Rattle.arc.proofs.read_sets.Given as goal

abbrev pub invariant-loop-start : goal.invariant-loop-start
invariant-loop-start l = Gathering l.s l.initial.places l.initial.cvs l.places l.cvs l.at l.count l.c

abbrev pub decreases-loop-start : goal.decreases-loop-start
decreases-loop-start l = length l.s - l.at
