-- `explain_fields::put_count` meets its contract: nothing for 0, and else the count and what is behind it.
use Rattle.explain_fields.proofs.Fields.{count_none, count-some}
use Rattle.explain_fields.proofs.put_count.Goals as goal

pub returns-then-is_same : goal.returns-then-is_same
returns-then-is_same c = search count_none

pub returns : goal.returns
returns c = search count-some
