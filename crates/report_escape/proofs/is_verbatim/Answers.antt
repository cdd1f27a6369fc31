-- `report_escape::is_verbatim` meets its contract: the tests are those of the definition.
use borrow.Author.Rules.{rules}
use Rattle.report_escape.proofs.Escapes.{verbatim-is}
use Rattle.report_escape.proofs.is_verbatim.Goals as goal

pub returns : goal.returns
returns c = verbatim-is c.args.b (search rules)
