-- `command_message::put_refusal` meets its contract: its parts one after another.
use Rattle.command_message.proofs.Putting.{refusal-put}
use borrow.Author.Rules.{rules}
use Rattle.command_message.proofs.put_refusal.Goals as goal

pub returns : goal.returns
returns c = refusal-put _ (search rules) _ _ _ _ c.put_opening-opened.ensures c.put_meaning-said.new.out c.put_meaning-said.result c.args.place c.args.list.now c.put_meaning-said.ensures _ _ c.put_part-at.ensures _ _ c.put_closing.ensures
