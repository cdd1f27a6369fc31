-- `write_columns::coded::is_bare` meets its contract: the text isn't empty, and every byte is of these.
use Rattle.write_columns.proofs.Tests.{bare-yes, bare-no}
use Rattle.write_columns.proofs.coded.is_bare.Goals as goal

pub returns-then-is_some : goal.returns-then-is_some
returns-then-is_some c = bare-yes c.args.s.now c.args.at c.args.t _ c.code_at.ensures _ c.is_some.ensures c.if-is_some.true _ c.is_each.ensures

pub returns-else-is_some : goal.returns-else-is_some
returns-else-is_some c = bare-no c.args.s.now c.args.at c.args.t _ c.code_at.ensures _ c.is_some.ensures c.if-is_some.false
