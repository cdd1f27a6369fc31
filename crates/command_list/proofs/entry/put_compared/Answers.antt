-- `command_list::entry::put_compared` meets its contract: the parts of the line, one after another.
use Rattle.command_list.proofs.EntryLines.{compared-put}
use Rattle.command_list.proofs.entry.put_compared.Goals as goal

pub returns : goal.returns
returns c = search compared-put
