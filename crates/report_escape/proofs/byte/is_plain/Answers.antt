-- `report_escape::byte::is_plain` meets its contract: each test is one of the definition.
use Rattle.report_escape.proofs.Escape.{plain-low, plain-high, plain-visible}
use Rattle.report_escape.proofs.byte.is_plain.Goals as goal

pub returns-then-b-lt33 : goal.returns-then-b-lt33
returns-then-b-lt33 c = search plain-low

pub returns-then-b-gt126 : goal.returns-then-b-gt126
returns-then-b-gt126 c = search plain-high

pub returns : goal.returns
returns c = search plain-visible
