-- `tag_list::linked::seek` meets its contract: what is passed on the way along the links is of other buckets.
use Rattle.tag_list.proofs.Linking.{Seeking}
use Rattle.tag_list.proofs.linked.seek.Given as goal

abbrev pub invariant-loop : goal.invariant-loop
invariant-loop l = Seeking l.s l.table l.next l.last l.name l.c
