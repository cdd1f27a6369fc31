-- `lexis_classes::class_at` meets its contract by those of its two calls.
use Rattle.lexis_classes.proofs.Items.{class-there}
use Rattle.lexis_classes.proofs.class_at.Goals as goal

pub returns : goal.returns
returns c = class-there _ _ _ _ c.byte.ensures c.in_class.ensures
