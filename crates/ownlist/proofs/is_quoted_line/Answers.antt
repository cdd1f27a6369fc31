-- `ownlist::is_quoted_line` meets its contract: the text has room in a buffer that holds the longest entry, or in a larger one, or no entry is spelled so.
use Rattle.ownlist.proofs.Texts.{text-long}
use Rattle.ownlist.proofs.is_quoted_line.Goals as goal

pub returns : goal.returns
returns c = text-long _ _ c.in_default-is_quoted_line_within.ensures
