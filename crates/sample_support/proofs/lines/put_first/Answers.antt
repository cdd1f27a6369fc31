-- The first 256 bytes, shown, have room in 768.
use Rattle.sample_support.proofs.Parts.{first-put}
use Rattle.sample_support.proofs.lines.put_first.Goals as goal

pub returns : goal.returns
returns c = search first-put
