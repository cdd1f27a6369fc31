-- `lexis_classes::item_at` meets its contract: each test is one of the definition.
use Rattle.lexis_classes.proofs.Items.{item-byte, item-pair, item-fold, item-none}
use Rattle.lexis_classes.proofs.item_at.Goals as goal

pub returns-then-class_at : goal.returns-then-class_at
returns-then-class_at c = search item-byte

pub returns-then-pair_at : goal.returns-then-pair_at
returns-then-pair_at c = search item-pair

pub returns-then-fold_at : goal.returns-then-fold_at
returns-then-fold_at c = search item-fold

pub returns : goal.returns
returns c = search item-none
