-- `judgement_lines::put_outcome` meets its contract: the word is a phrase of the text.
use Rattle.judgement_lines.proofs.Columns.{outcome-put}
use Rattle.judgement_lines.proofs.put_outcome.Goals as goal

pub returns : goal.returns
returns c = search outcome-put
