-- `punycode::numbers::scaled` meets its contract: at each turn the bias of what is left is that of the whole.
use Rattle.punycode_laws.proofs.Adapting.{Turns}
use Rattle.punycode.proofs.numbers.scaled.Given as goal

abbrev pub invariant-loop-d : goal.invariant-loop-d
invariant-loop-d l = Turns l.delta l.d l.k

abbrev pub decreases-loop-d : goal.decreases-loop-d
decreases-loop-d l = l.d
