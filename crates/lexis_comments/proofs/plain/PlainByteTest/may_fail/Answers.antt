-- A byte that no test stops stands in a run of plain bytes.
use borrow.Author.Rules.{rules}
use Rattle.lexis_laws.proofs.Bytes.{comment-unstopped}
use Rattle.lexis_comments.proofs.plain.PlainByteTest.may_fail.Goals as goal

pub returns : goal.returns
returns c = comment-unstopped c.args.b (search rules)
