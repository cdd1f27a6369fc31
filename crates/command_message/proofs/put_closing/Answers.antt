-- `command_message::put_closing` meets its contract: the digits, and then LF.
use Rattle.command_message.proofs.Putting.{closing-put}
use Rattle.command_message.proofs.put_closing.Goals as goal

pub returns : goal.returns
returns c = search closing-put
