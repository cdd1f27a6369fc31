-- `punycode::decoding::before_last` meets its contract: the answer from here on is the answer from the start.
use Rattle.punycode.proofs.Copying.{Sought}
use Rattle.punycode.proofs.decoding.before_last.Given as goal

abbrev pub invariant-loop-p : goal.invariant-loop-p
invariant-loop-p l = Sought l.s l.found l.p
