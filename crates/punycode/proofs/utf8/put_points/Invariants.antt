-- `punycode::utf8::put_points` meets its contract: at each turn what is left to write gives what the whole gives.
use Rattle.punycode.proofs.Writing.{Pointed}
use Rattle.punycode.proofs.utf8.put_points.Given as goal

abbrev pub invariant-loop-x : goal.invariant-loop-x
invariant-loop-x l = Pointed l.points l.initial.out l.to l.out l.x-index l.n
