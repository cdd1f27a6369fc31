-- `tag_list::collect_linked` meets its contract: at each turn the list is the tags read so far and those from there on, and the table has the
-- names of the former, linked.
use Prim.Native.Nat.{◌-◌}
use lib.ListN.{length}
use Rattle.tag_list.proofs.Linking.{Linking}
use Rattle.tag_list.proofs.collect_linked.Given as goal

abbrev pub invariant-loop-tag : goal.invariant-loop-tag
invariant-loop-tag l = Linking l.s l.at l.initial.table l.initial.next l.initial.heads l.table l.next l.heads l.i l.count l.cv

abbrev pub decreases-loop-tag : goal.decreases-loop-tag
decreases-loop-tag l = length l.s - l.i
