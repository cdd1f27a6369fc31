-- The number from each place on, behind the one so far, is the whole number cut at the most.
use Rattle.std.proofs.Common.{◌≡◌, ◌≤◌, min, drop}
use Rattle.sample_support.specs.Samples.{number}
use Rattle.sample_support.proofs.number_of.Given as goal

abbrev pub invariant-loop-b : goal.invariant-loop-b
invariant-loop-b l = record { cut : l.n ≤ l.most; same : min (number l.n (drop l.b-index l.s)) l.most ≡ min (number 0 l.s) l.most }
