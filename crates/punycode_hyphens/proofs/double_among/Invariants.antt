-- `punycode_hyphens::double_among` meets its contract: as long as no byte has hit, there are two hyphens in a row from the place on where there are
-- from the first.
use Rattle.punycode_hyphens.proofs.Doubles.{Scanned}
use Rattle.punycode_hyphens.proofs.double_among.Given as goal

abbrev pub invariant-loop-j : goal.invariant-loop-j
invariant-loop-j l = Scanned l.s l.at l.j l.hit
