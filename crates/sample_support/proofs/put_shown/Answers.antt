-- The three bytes one after the other are the definition's three.
use Rattle.sample_support.proofs.Fills.{shown-plain, shown-other}
use Rattle.sample_support.proofs.put_shown.Goals as goal

pub returns-then-is_plain : goal.returns-then-is_plain
returns-then-is_plain c = search shown-plain

pub returns : goal.returns
returns c = search shown-other
