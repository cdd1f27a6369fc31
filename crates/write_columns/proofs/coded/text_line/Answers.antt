-- `write_columns::coded::text_line` meets its contract: each way out has its law in `Tails`.
use Rattle.write_columns.proofs.Tails.{line-unfed, line-fits, line-untexted, line-found}
use Rattle.write_columns.proofs.coded.text_line.Goals as goal

pub overflow_add-end : goal.overflow_add-end
overflow_add-end c = search line-fits

pub returns-then-x : goal.returns-then-x
returns-then-x c = search line-found

pub returns-else-x : goal.returns-else-x
returns-else-x c = search line-untexted

pub returns-else-is_at : goal.returns-else-is_at
returns-else-is_at c = search line-unfed
