-- At each turn the digits that are left, stored from there on, give what all of them give.
use Rattle.std.proofs.Common.{drop}
use Rattle.sample_support.specs.Samples.{digits}
use Rattle.sample_support.proofs.Fills.{Filling}
use Rattle.sample_support.proofs.digits.Given as goal

abbrev pub invariant-loop-b : goal.invariant-loop-b
invariant-loop-b l = Filling l.fn.out (digits l.text) l.out l.n (digits (drop l.b-index l.text))
