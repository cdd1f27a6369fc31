-- A byte is visible by two tests.
use borrow.Author.Tests.{le-leb, lt-leb}
use Rattle.base_readers.specs.Texts.{within}
use Rattle.lexis_rules.specs.Bytes.{in_class}
use Rattle.ownlist_entry.proofs.visible.VisibleByteByteTest.passes.Goals as goal

pub returns-then-b-ge33 : goal.returns-then-b-ge33
unfolding in_class within
returns-then-b-ge33 c = rw (le-leb 33 c.args.b c.if-b-ge33.true)

pub returns-else-b-ge33 : goal.returns-else-b-ge33
unfolding in_class within
returns-else-b-ge33 c = rw (lt-leb 33 c.args.b c.if-b-ge33.false)
