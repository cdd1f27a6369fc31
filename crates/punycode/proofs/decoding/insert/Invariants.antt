-- `punycode::decoding::insert` meets its contract: those behind the place move on by one, the last first.
use Prim.Native.Nat.{◌≤◌}
use Rattle.punycode.proofs.Inserting.{Moved}
use Rattle.punycode.proofs.decoding.insert.Given as goal

abbrev pub invariant-loop-j : goal.invariant-loop-j
invariant-loop-j l = Moved l.initial.out l.count l.out l.j × (l.at ≤ l.j)

abbrev pub decreases-loop-j : goal.decreases-loop-j
decreases-loop-j l = l.j
