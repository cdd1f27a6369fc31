-- `blockreport::report_by` meets its contract: one law for each way out.
use Rattle.blockreport.proofs.Ends.{answer-2-4, answer-6, answer-copied, answer-written}
use Rattle.blockreport.proofs.report_by.Goals as goal

pub returns-then-m-ne-DONE : goal.returns-then-m-ne-DONE
returns-then-m-ne-DONE c =
    record { value = (answer-2-4 _ c.args.s.now _ c.args.out.now _ c.put_fields-m.result _ _ c.put_fields-m.ensures c.if-m-ne-DONE.true c.refuse.ensures).0; out_after = (answer-2-4 _ c.args.s.now _ c.args.out.now _ c.put_fields-m.result _ _ c.put_fields-m.ensures c.if-m-ne-DONE.true c.refuse.ensures).1 }

pub returns-in-Short : goal.returns-in-Short
returns-in-Short c =
    record { value = (answer-6 _ c.args.s.now _ c.args.out.now _ c.put_fields-m.result _ _ c.put_fields-m.ensures c.if-m-ne-DONE.false _ _ c.copy_first.ensures.value c.copy_first.ensures.out_after c.in-Short.is c.refuse-in-Short.ensures).0; out_after = (answer-6 _ c.args.s.now _ c.args.out.now _ c.put_fields-m.result _ _ c.put_fields-m.ensures c.if-m-ne-DONE.false _ _ c.copy_first.ensures.value c.copy_first.ensures.out_after c.in-Short.is c.refuse-in-Short.ensures).1 }

pub returns-in-Again : goal.returns-in-Again
returns-in-Again c =
    record { value = (answer-written _ c.args.s.now _ c.args.out.now _ c.put_fields-m.result _ _ c.put_fields-m.ensures c.if-m-ne-DONE.false _ _ c.copy_first.ensures.value c.copy_first.ensures.out_after c.in-Again.is _ c.put_fields.ensures).0; out_after = (answer-written _ c.args.s.now _ c.args.out.now _ c.put_fields-m.result _ _ c.put_fields-m.ensures c.if-m-ne-DONE.false _ _ c.copy_first.ensures.value c.copy_first.ensures.out_after c.in-Again.is _ c.put_fields.ensures).1 }

pub returns-in-Done : goal.returns-in-Done
returns-in-Done c =
    record { value = (answer-copied _ c.args.s.now _ c.args.out.now c.put_fields-m.result c.put_fields-m.result _ _ c.put_fields-m.ensures c.if-m-ne-DONE.false _ _ c.copy_first.ensures.value c.copy_first.ensures.out_after c.in-Done.is).0; out_after = (answer-copied _ c.args.s.now _ c.args.out.now c.put_fields-m.result c.put_fields-m.result _ _ c.put_fields-m.ensures c.if-m-ne-DONE.false _ _ c.copy_first.ensures.value c.copy_first.ensures.out_after c.in-Done.is).1 }
