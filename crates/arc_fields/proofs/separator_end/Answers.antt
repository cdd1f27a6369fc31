-- `arc_fields::separator_end` meets its contract: space and the byte behind it.
use Rattle.arc_fields.proofs.Instances.{separator-there, separator-other, separator-past}
use Rattle.arc_fields.proofs.separator_end.Goals as goal

pub returns-then-s-a : goal.returns-then-s-a
returns-then-s-a c = separator-there _ _ _ _ c.space_end-a.ensures c.if-a-s.true c.if-s-a.true

pub returns-else-s-a : goal.returns-else-s-a
returns-else-s-a c = search separator-other

pub returns-else-a-s : goal.returns-else-a-s
returns-else-a-s c = search separator-past
