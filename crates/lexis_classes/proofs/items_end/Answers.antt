use Rattle.base_readers.proofs.Loops.{reaches-start}
use Rattle.lexis_classes.proofs.Loops.{items-on, items-off, item-turn, item-less}
use Rattle.lexis_classes.proofs.items_end.Goals as goal

pub loop-c-init : goal.loop-c-init
loop-c-init c = reaches-start

pub returns-then-n-eq0 : goal.returns-then-n-eq0
returns-then-n-eq0 c = search items-off

pub overflow_add-i : goal.overflow_add-i
overflow_add-i c = search item-turn

pub loop-c-smaller : goal.loop-c-smaller
loop-c-smaller c = search item-less

pub loop-c-preserved : goal.loop-c-preserved
loop-c-preserved c = search items-on
