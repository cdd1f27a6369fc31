-- `judgement_lines::words::put_numbered` meets its contract: a phrase, and behind it the digits of a number other than 0.
use Rattle.judgement_lines.proofs.WordLaws.{no_number, number_put}
use Rattle.judgement_lines.proofs.words.put_numbered.Goals as goal

pub returns-then-n-eq0 : goal.returns-then-n-eq0
returns-then-n-eq0 c = search no_number

pub returns : goal.returns
returns c = search number_put
