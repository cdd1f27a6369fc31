-- `command_meanings::put_meaning` meets its contract: the phrase of the number, and for 5 what is wrong with the entry.
use Rattle.command_meanings.proofs.Meanings.{meaning-fault, meaning-put}
use Rattle.command_meanings.proofs.put_meaning.Goals as goal

pub returns-then-number-eq-BAD_LIST : goal.returns-then-number-eq-BAD_LIST
returns-then-number-eq-BAD_LIST c = search meaning-fault

pub returns : goal.returns
returns c = search meaning-put
