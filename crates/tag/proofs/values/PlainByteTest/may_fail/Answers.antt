-- A byte that no test stops stands in a run of plain bytes.
use borrow.Author.Rules.{rules}
use Rattle.lexis_laws.proofs.Bytes.{tag-unstopped}
use Rattle.tag.proofs.values.PlainByteTest.may_fail.Goals as goal

pub returns : goal.returns
returns c = tag-unstopped c.args.b (search rules)
