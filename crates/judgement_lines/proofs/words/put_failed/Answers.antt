-- `judgement_lines::words::put_failed` meets its contract: the reason, and the field that it names.
use Rattle.judgement_lines.proofs.WordLaws.{two-put}
use Rattle.judgement_lines.proofs.words.put_failed.Goals as goal

pub returns : goal.returns
returns c = search two-put
