-- `arc_answers::oldest_pass` meets its contract: the signatures that are left answer as all of them.
use Rattle.std.proofs.Common.{◌≡◌, length}
use Rattle.arc_rules.specs.Chain.{oldest_pass}
use Rattle.arc_answers.proofs.oldest_pass.Given as goal

abbrev pub invariant-loop-last : goal.invariant-loop-last
invariant-loop-last l = oldest_pass l.rest ≡ oldest_pass l.v

abbrev pub decreases-loop-last : goal.decreases-loop-last
decreases-loop-last l = length l.rest
