-- `explain::put_explained` meets its contract: without lines the one sentence, else the words of all lines.
use Rattle.explain.proofs.Lines.{none-put, lines-put}
use Rattle.explain.proofs.put_explained.Goals as goal

pub returns-then-lines-eq0 : goal.returns-then-lines-eq0
returns-then-lines-eq0 c = none-put c.args.lines.now _ _ _ _ c.if-lines-eq0.true c.put_part.ensures

pub returns : goal.returns
returns c = lines-put c.args.lines.now _ _ _ _ c.if-lines-eq0.false c.put_lines.ensures
