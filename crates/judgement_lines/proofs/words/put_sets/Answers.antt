-- `judgement_lines::words::put_sets` meets its contract: the digits, and behind them a phrase of the text.
use Rattle.judgement_lines.proofs.WordLaws.{sets-put}
use Rattle.judgement_lines.proofs.words.put_sets.Goals as goal

pub returns : goal.returns
returns c = search sets-put
