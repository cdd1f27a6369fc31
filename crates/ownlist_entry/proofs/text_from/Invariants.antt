-- `ownlist_entry::text_from` meets its contract: from each place of the loop the text of an entry ends where it ends from the first.
use Prim.Native.Nat.{◌-◌}
use lib.ListN.{length}
use Rattle.base_readers.specs.Places.{Reaches}
use Rattle.ownlist_rules.specs.OwnList.{entry_text}
use Rattle.ownlist_entry.proofs.text_from.Given as goal

abbrev pub invariant-loop-n : goal.invariant-loop-n
invariant-loop-n l = Reaches entry_text l.s l.at l.i

abbrev pub decreases-loop-n : goal.decreases-loop-n
decreases-loop-n l = length l.s - l.i
