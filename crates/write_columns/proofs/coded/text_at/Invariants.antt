-- `write_columns::coded::text_at` meets its contract: the loop keeps `Walking`, and each way out has its law.
use Rattle.write_columns.proofs.Tests.{Walking}
use lib.ListN.{length}
use Prim.Native.Nat.{◌-◌}
use Rattle.write_columns.proofs.coded.text_at.Given as goal

abbrev pub invariant-loop-c : goal.invariant-loop-c
invariant-loop-c l = Walking l.s l.at l.t l.i l.holds l.bare

abbrev pub decreases-loop-c : goal.decreases-loop-c
decreases-loop-c l = length l.s - l.i
