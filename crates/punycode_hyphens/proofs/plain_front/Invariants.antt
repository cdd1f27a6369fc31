-- `punycode_hyphens::plain_front` meets its contract: as long as none were found, there are two hyphens in a row from here on where there are from the
-- first place on.
use Prim.Native.Nat.{◌-◌}
use lib.ListN.{length}
use Rattle.punycode_hyphens.proofs.Doubles.{Passed}
use Rattle.punycode_hyphens.proofs.plain_front.Given as goal

abbrev pub invariant-loop-i : goal.invariant-loop-i
invariant-loop-i g l = Passed l.s l.at l.i

abbrev pub decreases-loop-i : goal.decreases-loop-i
decreases-loop-i g l = length l.s - l.i
