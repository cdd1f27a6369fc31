-- `lexis_comments::comment_end` meets its contract by that of the reader from a fresh cursor.
use Rattle.lexis_comments.proofs.Loops.{fresh-comment}
use Rattle.lexis_comments.proofs.comment_end.Goals as goal

pub returns : goal.returns
returns c = search fresh-comment
