-- `command_list::put_good_notes` meets its contract: without entries the one line, else the lines of all entries.
use Rattle.command_list.proofs.ListLines.{notes-none, notes-put}
use Rattle.command_list.proofs.put_good_notes.Goals as goal

pub returns-then-list-eq0 : goal.returns-then-list-eq0
returns-then-list-eq0 c = search notes-none

pub returns : goal.returns
returns c = search notes-put
