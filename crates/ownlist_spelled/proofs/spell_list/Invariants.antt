-- `ownlist_spelled::spell_list` meets its contract: at each turn what is left of the list is still to be written.
use Prim.Native.Nat.{◌-◌}
use lib.ListN.{length}
use Rattle.ownlist_spelled.proofs.Spelt.{Spelling}
use Rattle.ownlist_spelled.proofs.spell_list.Given as goal

abbrev pub invariant-loop-start : goal.invariant-loop-start
invariant-loop-start l = Spelling l.list l.initial.out l.out l.at l.count l.to

abbrev pub decreases-loop-start : goal.decreases-loop-start
decreases-loop-start l = length l.list - l.at
