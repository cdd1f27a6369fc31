-- `judgement_lines::put_outcomes` meets its contract: the columns one after another.
use Rattle.judgement_lines.proofs.Columns.{outcomes-put}
use Rattle.judgement_lines.proofs.put_outcomes.Goals as goal

pub returns : goal.returns
returns c = search outcomes-put
