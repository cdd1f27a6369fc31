-- `ownlist_entry::utf8::is_from` meets its contract: each test is one of the definition.
use Rattle.ownlist_entry.proofs.ByteSequences.{from-below, from-above}
use Rattle.ownlist_entry.proofs.utf8.is_from.Goals as goal

pub returns-then-x-a : goal.returns-then-x-a
returns-then-x-a c = search (from-below, from-above)

pub returns : goal.returns
returns c = search (from-below, from-above)
