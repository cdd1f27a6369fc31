-- `judgement_lines::put_letter` meets its contract: the letter is a phrase of the text.
use Rattle.judgement_lines.proofs.Columns.{letter-put}
use Rattle.judgement_lines.proofs.put_letter.Goals as goal

pub returns : goal.returns
returns c = search letter-put
