-- `command_list::entry::put_words` meets its contract: each arm writes the words of its notice.
use Rattle.command_list.proofs.EntryLines.{mark-words, hash-words, unbare-words, star-words}
use Rattle.command_list.proofs.entry.put_words.Goals as goal

pub returns-in-Mark : goal.returns-in-Mark
returns-in-Mark c = search mark-words

pub returns-in-Hash : goal.returns-in-Hash
returns-in-Hash c = search hash-words

pub returns-in-Unbare : goal.returns-in-Unbare
returns-in-Unbare c = search unbare-words

pub returns-in-Star : goal.returns-in-Star
returns-in-Star c = search star-words
