-- `write_columns::coded::is_each` meets its contract: the loop keeps `Testing`, and each way out has its law.
use Rattle.write_columns.proofs.Tests.{Testing}
use lib.ListN.{length}
use Prim.Native.Nat.{◌-◌}
use Rattle.write_columns.proofs.coded.is_each.Given as goal

abbrev pub invariant-loop-c : goal.invariant-loop-c
invariant-loop-c l = Testing l.s l.at l.t l.i

abbrev pub decreases-loop-c : goal.decreases-loop-c
decreases-loop-c l = length l.s - l.i
