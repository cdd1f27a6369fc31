-- `judgement_lines::words::put_verdict` meets its contract: each test is a case of the definition.
use Rattle.judgement_lines.proofs.WordLaws.{verdict-pass, verdict-fail}
use Rattle.judgement_lines.proofs.words.put_verdict.Goals as goal

pub returns-then-status-eq1 : goal.returns-then-status-eq1
returns-then-status-eq1 c = search verdict-pass

pub returns : goal.returns
returns c = search verdict-fail
