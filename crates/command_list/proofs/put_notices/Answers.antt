-- `command_list::put_notices` meets its contract: without entries the one line, else the lines of all entries.
use Rattle.command_list.proofs.ListLines.{notices-none, notices-put}
use Rattle.command_list.proofs.put_notices.Goals as goal

pub returns-then-list-eq0 : goal.returns-then-list-eq0
returns-then-list-eq0 c = search notices-none

pub returns : goal.returns
returns c = notices-put c.args.list.now _ _ _ _ c.if-list-eq0.false c.put_lines.ensures
