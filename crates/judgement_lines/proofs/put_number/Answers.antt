-- `judgement_lines::put_number` meets its contract: the tab, and then the digits.
use Rattle.judgement_lines.proofs.Columns.{number_put}
use Rattle.judgement_lines.proofs.put_number.Goals as goal

pub returns : goal.returns
returns c = search number_put
