-- `judgement_lines::words::put_pass` meets its contract: one phrase or the other.
use Rattle.judgement_lines.proofs.WordLaws.{pass-put}
use Rattle.judgement_lines.proofs.words.put_pass.Goals as goal

pub returns : goal.returns
returns c = search pass-put
