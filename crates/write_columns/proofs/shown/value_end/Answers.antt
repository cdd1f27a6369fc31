-- `write_columns::shown::value_end` meets its contract: each way out has its law in `Showing`.
use Rattle.write_columns.proofs.Showing.{shown-unkind, shown-untabbed, shown-fits, shown-unfed, shown-last, shown-found, shown-after}
use Rattle.write_columns.proofs.shown.value_end.Goals as goal

pub overflow_add-at : goal.overflow_add-at
overflow_add-at c = search shown-fits

pub overflow_add-result : goal.overflow_add-result
overflow_add-result c = search shown-last

pub returns-then-is_at-2 : goal.returns-then-is_at-2
returns-then-is_at-2 c = shown-after _ _ _ (shown-found _ _ _ c.byte.ensures _ c.is_kind.ensures c.if-is_kind.true _ c.is_at.ensures c.if-is_at.true _ c.text_at-x.ensures _ c.is_at-then-is_at.ensures c.if-is_at-2.true) c.text_at-x.ensures

pub returns-else-is_at-2 : goal.returns-else-is_at-2
returns-else-is_at-2 c = search shown-unfed

pub returns-else-is_at : goal.returns-else-is_at
returns-else-is_at c = search shown-untabbed

pub returns-else-is_kind : goal.returns-else-is_kind
returns-else-is_kind c = search shown-unkind
