-- `tag_list::list_of_some` meets its contract: the table serves unless it is full.
use Rattle.tag_list.proofs.Answers.{attempt-read, attempt-unreadable}
use Rattle.tag_list.proofs.list_of_some.Goals as goal

pub returns-in-Ok : goal.returns-in-Ok
returns-in-Ok c = search attempt-read

pub returns-in-Err-Unreadable : goal.returns-in-Err-Unreadable
returns-in-Err-Unreadable c = search attempt-unreadable
