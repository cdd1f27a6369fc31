-- `arc_answers::failed` meets its contract: a failed chain has this answer by definition.
use mathlib.Core.Path.{refl}
use Rattle.arc_rules.specs.Chain.{judged}
use Rattle.arc_answers.proofs.failed.Goals as goal

pub returns : goal.returns
unfolding judged
returns c = refl
