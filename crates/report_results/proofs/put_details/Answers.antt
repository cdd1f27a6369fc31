-- `report_results::put_details` meets its contract: the reason, and then the properties behind it.
use Rattle.report_results.proofs.Turns.{details-put}
use Rattle.report_results.proofs.put_details.Goals as goal

pub put_properties-requires : goal.put_properties-requires
put_properties-requires c = c.put_reason-r.ensures.gap

pub returns : goal.returns
returns c = search details-put
