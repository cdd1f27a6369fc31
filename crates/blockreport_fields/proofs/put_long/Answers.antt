-- `blockreport_fields::put_long` meets its contract: the line by what was measured, and then the report.
use borrow.Author.Rules.{rules}
use Rattle.blockreport_fields.proofs.Bodies.{long-size, long-put}
use Rattle.blockreport_fields.proofs.put_long.Goals as goal

pub put_report-requires : goal.put_report-requires
put_report-requires c = long-size _ _ c.measure-m.ensures

pub returns : goal.returns
returns c =
    record { value = (long-put _ _ c.measure-m.ensures _ _ _ _ _ _ _ _ (search rules) c.put_line-at.ensures (c.put_report.ensures.value, c.put_report.ensures.out_after)).0; out_after = (long-put _ _ c.measure-m.ensures _ _ _ _ _ _ _ _ (search rules) c.put_line-at.ensures (c.put_report.ensures.value, c.put_report.ensures.out_after)).1 }
