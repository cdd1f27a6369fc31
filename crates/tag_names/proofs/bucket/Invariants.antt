-- `tag_names::bucket` meets its contract: from each byte on the same number is made as from the first.
use Rattle.tag_names.proofs.Buckets.{Mixing}
use Rattle.tag_names.proofs.bucket.Given as goal

abbrev pub invariant-loop-b : goal.invariant-loop-b
invariant-loop-b l = Mixing l.name l.h l.b-index
