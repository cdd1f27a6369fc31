-- `judgement_lines::words::put_reason` meets its contract: the words are a phrase of the text.
use Rattle.judgement_lines.proofs.WordLaws.{reason-put}
use Rattle.judgement_lines.proofs.words.put_reason.Goals as goal

pub returns : goal.returns
returns c = search reason-put
