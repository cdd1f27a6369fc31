-- `command_message::put_opening` meets its contract: its parts one after another.
use Rattle.command_message.proofs.Putting.{opening-put}
use Rattle.command_message.proofs.put_opening.Goals as goal

pub returns : goal.returns
returns c = search opening-put
