-- `lexis_classes::items_end` meets its contract: from each place of the loop the items end where they end from the first.
use Prim.Native.Nat.{◌-◌}
use lib.ListN.{length}
use Rattle.base_readers.specs.Readers.{many}
use Rattle.base_readers.specs.Places.{Reaches}
use Rattle.lexis_rules.specs.Pieces.{item}
use Rattle.lexis_classes.proofs.items_end.Given as goal

abbrev pub invariant-loop-c : goal.invariant-loop-c
invariant-loop-c l = Reaches (many (item l.c) 0) l.s l.at l.i

abbrev pub decreases-loop-c : goal.decreases-loop-c
decreases-loop-c l = length l.s - l.i
