-- What is summed up so far, with the digits that are left, is the number of the run, which six digits can't make larger than 999,999.
use Rattle.lexis_laws.proofs.VersionNumbers.{Summed}
use Rattle.lexis_digits.proofs.sum.Given as goal

abbrev pub invariant-loop-k : goal.invariant-loop-k
invariant-loop-k l = Summed l.s l.start l.end l.k l.n
