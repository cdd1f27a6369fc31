-- `blockreport_lines::put_id_from` meets its contract: with no room left the line is measured, and else the rest of the buffer is lent.
use Rattle.blockreport_lines.proofs.Identifiers.{text_out, text-behind}
use Rattle.blockreport_lines.proofs.put_id_from.Goals as goal

pub returns-then-to-out : goal.returns-then-to-out
returns-then-to-out c = text_out _ _ _ c.if-to-out.true _ _ _ _ c.put_id.ensures c.sum.ensures

pub returns : goal.returns
returns c = text-behind _ _ _ c.if-to-out.false _ _ _ c.put_id-n.ensures c.sum-2.ensures
