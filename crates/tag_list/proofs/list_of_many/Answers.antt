-- `tag_list::list_of_many` meets its contract: where the linked table can't tell, the one in order is never full.
use Rattle.tag_list.proofs.Answers.{many-room, attempt-read, attempt-unreadable, many-said}
use borrow.Author.Rules.{rules}
use Rattle.tag_list.proofs.list_of_many.Goals as goal

pub try_linked-requires : goal.try_linked-requires
try_linked-requires c = many-room c.args.s.now c.requires

pub returns-in-Ok : goal.returns-in-Ok
returns-in-Ok c = attempt-read Unit c.args.seal c.args.s.now c.args.at _ c.try_linked.ensures _ c.in-Ok.is

pub returns-in-Err-Unreadable : goal.returns-in-Err-Unreadable
returns-in-Err-Unreadable c = attempt-unreadable Unit c.args.seal c.args.s.now c.args.at _ c.try_linked.ensures _ c.in-Err-Unreadable.is c.in-Err-Unreadable.field-0-is

pub returns-in-Err-Full : goal.returns-in-Err-Full
returns-in-Err-Full c = many-said _ _ _ _ c.try_list.result c.try_list.ensures.attempt_if (search rules) c.requires _ c.ok.ensures.value
