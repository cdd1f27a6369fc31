-- `write_lines::put_none` meets its contract: each way out has its law in `Lines`.
use Rattle.write_lines.proofs.Lines.{none-unlike, none-fits, none-put}
use Rattle.write_lines.proofs.put_none.Goals as goal

pub returns-then-not-is_literal : goal.returns-then-not-is_literal
returns-then-not-is_literal c = search none-unlike

pub overflow_add-result : goal.overflow_add-result
overflow_add-result c = search none-fits

pub returns : goal.returns
returns c = search none-put
