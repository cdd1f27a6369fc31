-- The tests of the code are those of the definition.
use Rattle.sample_support.proofs.Fills.{percent-other, visible_plain}
use Rattle.sample_support.proofs.is_plain.Goals as goal

pub returns-then-b-eq37 : goal.returns-then-b-eq37
returns-then-b-eq37 c = search percent-other

pub returns : goal.returns
returns c = search visible_plain
