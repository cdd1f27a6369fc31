use Rattle.tag_names.proofs.Buckets.{mixing-on, mixing-end}
use Rattle.tag_names.proofs.bucket.Goals as goal

pub loop-b-preserved : goal.loop-b-preserved
loop-b-preserved c = mixing-on _ _ _ c.loop-b.invariant c.loop-b-test.true _ c.from.ensures

pub returns : goal.returns
returns c = search mixing-end
