use Rattle.std.proofs.Common.{rules, arith}
use Rattle.command_list.proofs.ListLines.{lines_start, lines_more, lines-done}
use Rattle.command_list.proofs.put_lines.Goals as goal

pub loop-line-init : goal.loop-line-init
loop-line-init c = lines_start _ _ _ _ (search rules)

pub overflow_add-count : goal.overflow_add-count
overflow_add-count c = omega (arith, c.loop-line.invariant.few)

pub loop-line-preserved : goal.loop-line-preserved
loop-line-preserved c = lines_more _ _ _ _ _ _ _ _ c.loop-line.invariant (search rules) _ _ c.in-Some.ensures.line c.in-Some.ensures.shorter c.put_line-n.new.out c.put_line-n.result c.put_line-n.ensures

pub returns : goal.returns
returns c = search (rules, lines-done)
