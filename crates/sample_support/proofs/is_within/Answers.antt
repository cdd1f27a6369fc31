-- The tests of the code are those of the definition.
use Rattle.sample_support.proofs.Fills.{within-before, within-after}
use Rattle.sample_support.proofs.is_within.Goals as goal

pub returns-then-b-a : goal.returns-then-b-a
returns-then-b-a c = search within-before

pub returns : goal.returns
returns c = search within-after
