use Rattle.tag_list_ordered.proofs.Halving.{carrying-start, carrying-on, carrying-end}
use Rattle.tag_list_ordered.proofs.seen.insert.Goals as goal

pub loop-j-init : goal.loop-j-init
loop-j-init c = search carrying-start

pub loop-j-preserved : goal.loop-j-preserved
loop-j-preserved c = search carrying-on

pub shape_of-table : goal.shape_of-table
shape_of-table c = c.loop-j.invariant.long

pub returns : goal.returns
returns c = search carrying-end
