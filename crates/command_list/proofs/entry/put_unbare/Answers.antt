-- `command_list::entry::put_unbare` meets its contract: the words, and then the byte.
use Rattle.command_list.proofs.EntryLines.{unbare-put, unbare-none}
use Rattle.command_list.proofs.entry.put_unbare.Goals as goal

pub returns-then-i-e : goal.returns-then-i-e
returns-then-i-e c = search unbare-put

pub returns : goal.returns
returns c = search unbare-none
