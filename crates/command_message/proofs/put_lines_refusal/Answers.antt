-- `command_message::put_lines_refusal` meets its contract: its parts one after another.
use Rattle.command_message.proofs.Putting.{lines-put}
use Rattle.command_message.proofs.put_lines_refusal.Goals as goal

pub returns : goal.returns
returns c = search lines-put
