-- `tag_list_ordered::collect` meets its contract: at each turn the list is the tags read so far and those from there on, and the table has the
-- names of the former.
use Prim.Native.Nat.{◌-◌}
use lib.ListN.{length}
use Rattle.tag_list_ordered.proofs.Collecting.{Collecting}
use Rattle.tag_list_ordered.proofs.collect.Given as goal

abbrev pub invariant-loop-tag : goal.invariant-loop-tag
invariant-loop-tag l = Collecting l.s l.at l.initial.table l.table l.i l.count l.cv

abbrev pub decreases-loop-tag : goal.decreases-loop-tag
decreases-loop-tag l = length l.s - l.i
