-- `report_results::put_properties` meets its contract: each turn reads and writes one property more.
use Prim.Native.Nat.{◌-◌}
use lib.ListN.{length}
use Rattle.report_results.proofs.Turns.{Writing}
use Rattle.report_results.proofs.put_properties.Given as goal

abbrev pub invariant-loop-type_start : goal.invariant-loop-type_start
invariant-loop-type_start l = Writing l.s l.at l.initial.out l.to l.out l.i l.a l.n l.known

abbrev pub decreases-loop-type_start : goal.decreases-loop-type_start
decreases-loop-type_start l = length l.s - l.i
