-- `judgement_lines::words::put_built` meets its contract: the sets, and what the verdicts make of them.
use Rattle.judgement_lines.proofs.WordLaws.{two-put}
use Rattle.judgement_lines.proofs.words.put_built.Goals as goal

pub returns : goal.returns
returns c = search two-put
