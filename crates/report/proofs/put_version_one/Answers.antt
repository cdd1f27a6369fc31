-- `report::put_version_one` meets its contract: what has to follow the head follows it, or the body is not well-formed.
use Rattle.report.proofs.Heads.{first-payload, first-shut}
use Rattle.report.proofs.put_version_one.Goals as goal

pub returns-then-delimited : goal.returns-then-delimited
returns-then-delimited c = search first-payload

pub returns : goal.returns
returns c = search first-shut
