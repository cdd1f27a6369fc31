-- `judgement_lines::put_oldest` meets its contract: there is one where the status is pass.
use Rattle.judgement_lines.proofs.Columns.{oldest-some, oldest-none}
use Rattle.judgement_lines.proofs.put_oldest.Goals as goal

pub returns-then-status-eq1 : goal.returns-then-status-eq1
returns-then-status-eq1 c = search oldest-some

pub returns : goal.returns
returns c = search oldest-none
