-- At each turn the text that is left, stored from there on, gives what the whole text gives.
use Rattle.std.proofs.Common.{drop}
use Rattle.sample_support.specs.Samples.{shown}
use Rattle.sample_support.proofs.Fills.{Filling}
use Rattle.sample_support.proofs.shown.Given as goal

abbrev pub invariant-loop-b : goal.invariant-loop-b
invariant-loop-b l = Filling l.fn.out (shown l.s) l.out l.n (shown (drop l.b-index l.s))
