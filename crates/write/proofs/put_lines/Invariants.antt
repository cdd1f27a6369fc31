-- `write::put_lines` meets its contract: the loop keeps `Lining`, and each way out has its law.
use Rattle.write.proofs.Passes.{Lining}
use lib.ListN.{length}
use Prim.Native.Nat.{◌-◌}
use Rattle.write.proofs.put_lines.Given as goal

abbrev pub invariant-loop-at : goal.invariant-loop-at
invariant-loop-at l = Lining l.s l.initial.out l.out l.at l.n l.state l.to

abbrev pub decreases-loop-at : goal.decreases-loop-at
decreases-loop-at l = length l.s - l.at
