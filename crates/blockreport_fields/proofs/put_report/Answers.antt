-- `blockreport_fields::put_report` meets its contract: with no room left nothing is written, and else the rest of the buffer is lent.
use Rattle.blockreport_fields.proofs.Bodies.{report-out, report-put}
use Rattle.blockreport_fields.proofs.put_report.Goals as goal

pub returns-then-to-out : goal.returns-then-to-out
returns-then-to-out c =
    record { value = (report-out c.args.body.now _ _ c.if-to-out.true _ c.requires _ c.sum.ensures).0; out_after = (report-out c.args.body.now _ _ c.if-to-out.true _ c.requires _ c.sum.ensures).1 }

pub returns : goal.returns
returns c =
    record { value = (report-put c.args.body.now _ _ c.if-to-out.false _ c.requires _ c.sum-2.ensures _ c.report.ensures.out_after).0; out_after = (report-put c.args.body.now _ _ c.if-to-out.false _ c.requires _ c.sum-2.ensures _ c.report.ensures.out_after).1 }
