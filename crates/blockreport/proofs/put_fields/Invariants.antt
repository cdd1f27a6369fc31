-- `blockreport::put_fields` meets its contract: at each turn what is left of the block answers as the whole.
use Prim.Native.Nat.{◌-◌}
use lib.ListN.{length}
use Rattle.base_readers.specs.Lines.{lines_of}
use Rattle.ownlist_rules.specs.Spelled.{own_of_spelled}
use Rattle.blockreport.proofs.Passes.{Telling}
use Rattle.blockreport.proofs.put_fields.Given as goal

abbrev pub invariant-loop-start : goal.invariant-loop-start
invariant-loop-start l = Telling l.detail l.s (own_of_spelled (lines_of l.own)) l.initial.out l.out l.at l.count l.to

abbrev pub decreases-loop-start : goal.decreases-loop-start
decreases-loop-start l = length l.s - l.at
