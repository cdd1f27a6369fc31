-- `command_list::put_check` meets its contract: how the entries are compared, and then what is noticed.
use Rattle.command_list.proofs.ListLines.{check-put}
use Rattle.command_list.proofs.put_check.Goals as goal

pub returns : goal.returns
returns c = search check-put
