-- The name, then the digits, and their place cut at the room.
use Rattle.sample_support.proofs.Parts.{number_put}
use Rattle.sample_support.proofs.lines.put_number.Goals as goal

pub returns-clause-filled : goal.returns-clause-filled
returns-clause-filled c = search number_put
