-- `arc::has_empty` meets its contract: at each place of the nested loops what is left answers as the whole.
use Rattle.arc.proofs.Ranking.{RowsFrom, RowFrom}
use Rattle.arc.proofs.has_empty.Given as goal

abbrev pub invariant-loop-k : goal.invariant-loop-k
invariant-loop-k l = RowFrom l.places l.n l.found l.i l.k

abbrev pub invariant-search : goal.invariant-search
invariant-search l = RowsFrom l.places l.n l.found l.i
