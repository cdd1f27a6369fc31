-- Nothing, or the parts of the line one after another.
use Rattle.std.proofs.Common.{rules}
use Rattle.command_list.proofs.EntryLines.{notice-none-put, notice-put}
use Rattle.command_list.proofs.entry.put_notice.Goals as goal

pub returns-in_default : goal.returns-in_default
returns-in_default c = search (rules, notice-none-put)

pub returns : goal.returns
returns c = search (rules, notice-put)
