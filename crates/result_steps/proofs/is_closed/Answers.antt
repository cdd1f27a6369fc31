-- `result_steps::is_closed` meets its contract: by the byte that comes next.
use borrow.Author.Tests.{le-leb}
use lib.ListN.{length}
use Rattle.result_steps.proofs.Steps.{end-at, end-over}
use Rattle.result_steps.proofs.is_closed.Goals as goal

pub returns-then-at-s : goal.returns-then-at-s
returns-then-at-s c = rw (le-leb (length c.args.s.now) c.args.at c.if-at-s.true) (end-over c.args.s.now c.args.at c.if-at-s.true)

pub returns-else-at-s : goal.returns-else-at-s
returns-else-at-s c = search end-at
