-- `judgement_lines::put_status` meets its contract: the word is a phrase of the text.
use Rattle.judgement_lines.proofs.Columns.{status-put}
use Rattle.judgement_lines.proofs.put_status.Goals as goal

pub returns : goal.returns
returns c = search status-put
