-- `command_log::put_line` meets its contract: the line of a field that goes, and nothing of one that stays.
use Rattle.command_log.proofs.LogLines.{line-goes, line_stays}
use Rattle.command_log.proofs.put_line.Goals as goal

pub returns-then-mark-eq1 : goal.returns-then-mark-eq1
returns-then-mark-eq1 c = let x = c.args in
    line-goes x.mark x.n x.field.now x.out.now x.to c.if-mark-eq1.true _ _ c.put_goes.ensures

pub returns : goal.returns
returns c = search line_stays
