-- `command_list::entry::put_front` meets its contract: the word, and then the number.
use Rattle.command_list.proofs.EntryLines.{front-put}
use Rattle.command_list.proofs.entry.put_front.Goals as goal

pub returns : goal.returns
returns c = search front-put
