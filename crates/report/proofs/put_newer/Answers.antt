-- `report::put_newer` meets its contract: the line of the version, where what has to follow the head follows it.
use Rattle.report.proofs.Heads.{newer-stated, newer-shut}
use Rattle.report.proofs.put_newer.Goals as goal

pub returns-then-delimited : goal.returns-then-delimited
returns-then-delimited c = search newer-stated

pub returns : goal.returns
returns c = search newer-shut
