-- `command_list::put_notes` meets its contract: the notes of a good list, and nothing of a bad one.
use Rattle.command_list.proofs.ListLines.{notes-good, notes-bad}
use Rattle.command_list.proofs.put_notes.Goals as goal

pub returns-in-Good : goal.returns-in-Good
returns-in-Good c = search notes-good

pub returns-in-Bad : goal.returns-in-Bad
returns-in-Bad c = search notes-bad
