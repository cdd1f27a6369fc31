-- `report_escape::has_stop` meets its contract: as long as no byte has hit, the run ends where it ends from the first place on.
use Prim.Native.Nat.{◌+◌}
use mathlib.Core.Path.{◌≡◌}
use mathlib.Core.Bool.{false}
use Rattle.base_readers.specs.Readers.{run}
use Rattle.base_readers.specs.Places.{Reaches}
use Rattle.report_escape.specs.Internal.{verbatim}
use Rattle.report_escape.proofs.has_stop.Given as goal

abbrev pub invariant-loop-j : goal.invariant-loop-j
invariant-loop-j l = l.hit ≡ false → Reaches (run verbatim) l.s l.at (l.at + l.j)
