-- `arc::note` meets its contract: a field of another kind is passed over, one that reads is placed, any other is unreadable.
use Rattle.arc.proofs.Noting.{note-other, read-range, note-read, note-unread}
use Rattle.arc.proofs.note.Goals as goal

pub returns-then-is_other : goal.returns-then-is_other
returns-then-is_other c = search note-other

pub place-requires : goal.place-requires
place-requires c = read-range _ _ _ _ c.is_other.ensures c.if-is_other.false _ c.read_field.ensures _ c.in-Some.is c.requires.1

pub returns-in-Some : goal.returns-in-Some
returns-in-Some c = search note-read

pub returns-in-None : goal.returns-in-None
returns-in-None c = search note-unread
