-- `report_escape::is_whole` meets its contract: the run of bytes that are written as they stand reaches each place of the loop, and from the last
-- of these the end.
use Prim.Native.Nat.{◌≤◌}
use lib.ListN.{length}
use Rattle.base_readers.specs.Readers.{run}
use Rattle.base_readers.specs.Places.{Reaches}
use Rattle.report_escape.specs.Internal.{verbatim}
use Rattle.report_escape.proofs.is_whole.Given as goal

abbrev pub invariant-loop-i : goal.invariant-loop-i
invariant-loop-i l = Reaches (run verbatim) l.s 0 l.i × (l.i ≤ length l.s)
