-- `report::put_body` meets its contract: the line of the identifier, and what stands behind it.
use Rattle.report.proofs.Heads.{body-room, body-said}
use Rattle.report.proofs.put_body.Goals as goal

pub put_headed-requires : goal.put_headed-requires
put_headed-requires c = body-room _ _ _ _ _ c.requires _ _ c.put_id-n.ensures

pub returns : goal.returns
returns c = body-said _ _ _ _ _ c.requires _ _
    c.put_id-n.ensures _ _ c.put_headed.ensures
