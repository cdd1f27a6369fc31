-- `ownlist::is_quoted_line_within` meets its contract: the text is written into a buffer.
use lib.ListN.{drop, length-replicate}
use Rattle.lexis_rules.specs.Words.{quoted_text}
use Rattle.ownlist.proofs.Texts.{text-line}
use Rattle.ownlist.proofs.is_quoted_line_within.Goals as goal

pub returns : goal.returns
returns g c = text-line _ (quoted_text (drop c.args.at c.args.body.now)) _ _ _ c.put_quoted-n.ensures (rw length-replicate c.if-n.false) _ c.is_spelled_line.ensures
