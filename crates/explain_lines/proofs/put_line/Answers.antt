-- `explain_lines::put_line` meets its contract: the words of its kind, of what stands behind its first column.
use Rattle.explain_lines.proofs.Words.{line-put}
use Rattle.explain_lines.proofs.put_line.Goals as goal

pub returns : goal.returns
returns c = search line-put
