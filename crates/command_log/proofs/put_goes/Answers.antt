-- `command_log::put_goes` meets its contract: the parts of the line one after another.
use Rattle.command_log.proofs.LogLines.{goes-put}
use borrow.Author.Rules.{rules}
use Rattle.command_log.proofs.put_goes.Goals as goal

pub returns : goal.returns
returns c = let x = c.args in
    goes-put x.n x.field.now x.out.now x.to (search rules) _ c.part-front.ensures _ _ c.put_part-a.ensures _ _ c.put_decimal-b.ensures _ _ c.put_part-c.ensures _ _ c.put_escaped-d.ensures _ _ c.put_part.ensures
