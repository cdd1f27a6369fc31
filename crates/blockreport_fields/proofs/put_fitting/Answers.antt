-- `blockreport_fields::put_fitting` meets its contract: with too little room nothing is written, and else as much as there is room for is all of it.
use Rattle.blockreport_fields.proofs.Bodies.{copy-out, copy-put}
use Rattle.blockreport_fields.proofs.put_fitting.Goals as goal

pub returns-then-text-rest : goal.returns-then-text-rest
returns-then-text-rest c =
    record { value = (copy-out _ _ _ _ c.rest.ensures c.if-text-rest.true _ c.sum.ensures).0; out_after = (copy-out _ _ _ _ c.rest.ensures c.if-text-rest.true _ c.sum.ensures).1 }

pub returns : goal.returns
returns c =
    record { value = (copy-put _ _ _ _ c.rest.ensures c.if-text-rest.false _ _ c.put_part.ensures).0; out_after = (copy-put _ _ _ _ c.rest.ensures c.if-text-rest.false _ _ c.put_part.ensures).1 }
