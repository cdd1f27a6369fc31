-- One number after the other.
use Rattle.sample_support.proofs.Parts.{sums-put}
use Rattle.sample_support.proofs.lines.put_sums.Goals as goal

pub returns-clause-filled : goal.returns-clause-filled
returns-clause-filled c = search sums-put
