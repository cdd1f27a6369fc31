-- `lexis_classes::pair_at` meets its contract: each test is one of the definition.
use Rattle.lexis_classes.proofs.Items.{pair-never, pair-not, pair_is}
use Rattle.lexis_classes.proofs.pair_at.Goals as goal

pub returns-then-is_at : goal.returns-then-is_at
returns-then-is_at c = search pair_is

pub returns-then-escapes : goal.returns-then-escapes
returns-then-escapes c = search pair-not

pub returns : goal.returns
returns c = search pair-never
