-- `command_list::entry::is_marked` meets its contract: the three tests of the definition.
use Rattle.command_list.proofs.EntryLines.{marked-is}
use Rattle.command_list.proofs.entry.is_marked.Goals as goal

pub returns : goal.returns
returns c = marked-is c.args.e.now _ _ _ c.is_at-a.ensures c.is_at-b.ensures c.is_at-c.ensures
