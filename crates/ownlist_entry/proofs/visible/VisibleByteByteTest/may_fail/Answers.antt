-- A byte that passes both tests is visible.
use Rattle.ownlist_entry.proofs.ByteSequences.{smooth-visible}
use Rattle.ownlist_entry.proofs.visible.VisibleByteByteTest.may_fail.Goals as goal

pub returns : goal.returns
returns c = smooth-visible c.args.b
