-- Its parts one after another, and their place cut at the room.
use Rattle.sample_support.proofs.Parts.{text-put}
use Rattle.sample_support.proofs.lines.put_text.Goals as goal

pub returns-clause-filled : goal.returns-clause-filled
returns-clause-filled c = search text-put
