-- `lexis_classes::fold_at` meets its contract: each test is one of the definition.
use Rattle.lexis_classes.proofs.Items.{fold-no-return, fold-no-feed, fold_is}
use Rattle.lexis_classes.proofs.fold_at.Goals as goal

pub returns-then-is_at-2 : goal.returns-then-is_at-2
returns-then-is_at-2 c = search fold_is

pub returns-then-is_at : goal.returns-then-is_at
returns-then-is_at c = search fold-no-feed

pub returns : goal.returns
returns c = search fold-no-return
