-- `tag_list_ordered::seen::insert` meets its contract: putting the carried entry in from each place of the loop on leaves what putting the place in at the
-- start would have left.
use Rattle.tag_list_ordered.proofs.Halving.{Carrying}
use Rattle.tag_list_ordered.proofs.seen.insert.Given as goal

abbrev pub invariant-loop-j : goal.invariant-loop-j
invariant-loop-j l = Carrying l.initial.table l.count l.at l.place l.table l.carried l.j
