use Rattle.tag_list_ordered.proofs.Halving.{search-start, search-free, turn_up, turn-down, turn-same}
use Rattle.tag_list_ordered.proofs.seen.find.Goals as goal

pub loop-lo-init : goal.loop-lo-init
loop-lo-init c = search search-start

pub loop-lo-preserved-in-Less : goal.loop-lo-preserved-in-Less
loop-lo-preserved-in-Less c = search turn_up

pub returns-in-Equal : goal.returns-in-Equal
returns-in-Equal c = search turn-same

pub loop-lo-preserved : goal.loop-lo-preserved
loop-lo-preserved c = search turn-down

pub returns : goal.returns
returns c = search search-free
