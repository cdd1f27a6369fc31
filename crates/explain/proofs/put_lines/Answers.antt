-- A line's words and its end are the front of what is left; nothing is left where there is no line.
use Rattle.std.proofs.Common.{rules}
use Rattle.explain.proofs.Lines.{lines_more, lines-done}
use Rattle.explain.proofs.put_lines.Goals as goal

pub loop-line-preserved : goal.loop-line-preserved
loop-line-preserved c = lines_more _ _ _ _ _ _ c.loop-line.invariant (search rules) _ _ c.in-Some.ensures.line _ _ c.put_line-a.ensures c.put_end-n.new.out c.put_end-n.result c.put_end-n.ensures

pub returns : goal.returns
returns c = search (rules, lines-done)
