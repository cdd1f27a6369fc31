-- `write_columns::words::column_end` meets its contract: each way out has its law in `Keywords`.
use Rattle.write_columns.proofs.Keywords.{column-found, column-open-none, column-empty}
use Rattle.write_columns.proofs.words.column_end.Goals as goal

pub returns-then-is_at : goal.returns-then-is_at
returns-then-is_at c = column-found _ _ _ _ c.keyword_end-e.ensures c.if-e-at.true _ c.is_at.ensures c.if-is_at.true

pub returns-else-is_at : goal.returns-else-is_at
returns-else-is_at c = column-open-none _ _ _ _ c.keyword_end-e.ensures _ c.is_at.ensures c.if-is_at.false

pub returns-else-e-at : goal.returns-else-e-at
returns-else-e-at c = column-empty _ _ _ _ c.keyword_end-e.ensures c.if-e-at.false
