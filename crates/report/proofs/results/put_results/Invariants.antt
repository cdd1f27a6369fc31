-- `report::results::put_results` meets its contract: each turn reads one result more, and its lines stay where it is understood.
use Prim.Native.Nat.{◌-◌}
use lib.ListN.{length}
use Rattle.report.proofs.Passes.{Passing}
use Rattle.report.proofs.results.put_results.Given as goal

abbrev pub invariant-loop-turn : goal.invariant-loop-turn
invariant-loop-turn l = Passing l.s l.at l.initial.out l.to l.out l.i l.a l.n l.ignored

abbrev pub decreases-loop-turn : goal.decreases-loop-turn
decreases-loop-turn l = length l.s - l.i
