-- `result_separators::comes_next` meets its contract: the byte at the place, or the end.
use Rattle.std.proofs.Common.{length}
use borrow.Author.Tests.{le-ltb}
use Rattle.result_separators.proofs.Separators.{next-at, next-end}
use Rattle.result_separators.proofs.comes_next.Goals as goal

pub returns-then-at-s : goal.returns-then-at-s
returns-then-at-s c = search next-at

pub returns-else-at-s : goal.returns-else-at-s
returns-else-at-s c = rw (le-ltb c.args.at (length c.args.s.now) c.if-at-s.false) (next-end c.args.b c.args.s.now c.args.at c.if-at-s.false)
