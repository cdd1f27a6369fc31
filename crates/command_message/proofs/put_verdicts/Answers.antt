-- `command_message::put_verdicts` meets its contract: the words, and then the sets.
use Rattle.command_message.proofs.Putting.{verdicts-put}
use Rattle.command_message.proofs.put_verdicts.Goals as goal

pub returns : goal.returns
returns c = search verdicts-put
