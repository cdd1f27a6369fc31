-- The sums, and then the text.
use Rattle.sample_support.proofs.Parts.{bytes-put}
use Rattle.sample_support.proofs.lines.put_bytes.Goals as goal

pub returns-clause-filled : goal.returns-clause-filled
returns-clause-filled c = search bytes-put
