-- `blockreport_fields::put_detail` meets its contract: one law for each way out.
use native.Mathlib.Omega.{arith}
use Rattle.blockreport_fields.proofs.Bodies.{detail-other, detail-silent, detail-put}
use Rattle.blockreport_fields.proofs.put_detail.Goals as goal

pub returns-then-number-ne-MALFORMED : goal.returns-then-number-ne-MALFORMED
returns-then-number-ne-MALFORMED c = detail-other _ _ _ _ _ c.if-number-ne-MALFORMED.true (omega arith)

pub returns-in-Reported : goal.returns-in-Reported
returns-in-Reported c = detail-silent _ _ _ _ _ c.in-Reported.is (omega arith)

pub returns-in-Identified : goal.returns-in-Identified
returns-in-Identified c = detail-put _ _ _ _ _ c.if-number-ne-MALFORMED.false c.in-Identified.is _ _ c.put_identifier.ensures
