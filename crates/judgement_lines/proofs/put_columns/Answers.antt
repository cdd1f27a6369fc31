-- `judgement_lines::put_columns` meets its contract: the two parts and the end of the line are the whole line.
use Rattle.judgement_lines.proofs.Columns.{columns-put}
use Rattle.judgement_lines.proofs.put_columns.Goals as goal

pub returns : goal.returns
returns c = search columns-put
