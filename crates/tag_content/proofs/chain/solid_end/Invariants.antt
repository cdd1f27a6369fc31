-- `tag_content::chain::solid_end` meets its contract: the part that is left is as solid as the whole.
use Rattle.std.proofs.Common.{◌≡◌, length}
use Rattle.tag_rules.specs.Tags.{solid}
use Rattle.tag_content.proofs.chain.solid_end.Given as goal

abbrev pub invariant-loop-last : goal.invariant-loop-last
invariant-loop-last l = solid l.rest ≡ solid l.v

abbrev pub decreases-loop-last : goal.decreases-loop-last
decreases-loop-last l = length l.rest
