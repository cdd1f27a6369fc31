-- `block_lines::line_end` meets its contract: the text of a line, CR and LF.
use Rattle.block_lines.proofs.Lines.{line-not, line-cut, line-whole, line-room}
use borrow.Author.Rules.{rules}
use Rattle.block_lines.proofs.line_end.Goals as goal

pub overflow_add-result : goal.overflow_add-result
overflow_add-result c = line-room c.args.s.now c.line_text-e.result _ c.is_at-then-is_at.ensures c.if-is_at-2.true (search rules)

pub returns-then-is_at-2 : goal.returns-then-is_at-2
returns-then-is_at-2 c = line-whole c.args.s.now c.args.at c.line_text-e.result c.line_text-e.ensures _ c.is_at.ensures c.if-is_at.true _ c.is_at-then-is_at.ensures c.if-is_at-2.true

pub returns-else-is_at-2 : goal.returns-else-is_at-2
returns-else-is_at-2 c = search line-cut

pub returns-else-is_at : goal.returns-else-is_at
returns-else-is_at c = search line-not
