-- The sum over the bytes still to come, from the two halves so far, is the whole sum; both halves stay below 65,521.
use Rattle.std.proofs.Common.{◌≡◌, ◌<◌, drop}
use Rattle.sample_sums.specs.Sums.{sums, adler}
use Rattle.sample_sums.proofs.adler.Given as goal

abbrev pub invariant-loop-b : goal.invariant-loop-b
invariant-loop-b l = record { low : l.low < 65521; high : l.high < 65521; sum : sums l.low l.high (drop l.b-index l.s) ≡ adler l.s }
