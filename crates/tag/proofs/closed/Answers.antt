-- `tag::closed` meets its contract: the end of the body, or a ";".
use Rattle.tag.proofs.TagParts.{closed-end, closed-mark, closed-not}
use Rattle.tag.proofs.closed.Goals as goal

pub returns-then-value_end-s : goal.returns-then-value_end-s
returns-then-value_end-s c = search closed-end

pub returns-then-s-value_end-eq59 : goal.returns-then-s-value_end-eq59
returns-then-s-value_end-eq59 c = search closed-mark

pub returns : goal.returns
returns c = search closed-not
