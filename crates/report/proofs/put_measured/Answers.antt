-- `report::put_measured` meets its contract: one law for each way out.
use Rattle.report.proofs.Ends.{answer-9, answer-6, again-fits, answer-copied, answer-written}
use mathlib.Core.Path.{sym}
use lib.Seq.{length-take-le}
use Rattle.report.proofs.put_measured.Goals as goal

pub returns-then-first-eq-MALFORMED : goal.returns-then-first-eq-MALFORMED
returns-then-first-eq-MALFORMED c =
    record { value = (answer-9 _ _ c.requires.0 _ _ _ c.put_body-first.ensures c.if-first-eq-MALFORMED.true).0; out_after = (answer-9 _ _ c.requires.0 _ _ _ c.put_body-first.ensures c.if-first-eq-MALFORMED.true).1 }

pub slice_bounds-put_body-end-in-Again : goal.slice_bounds-put_body-end-in-Again
slice_bounds-put_body-end-in-Again c = again-fits _ _ c.requires.0 _ _ _ c.put_body-first.ensures _ _ c.copy_first.ensures.value c.copy_first.ensures.out_after c.in-Again.is

pub slice_bounds-put_body-end-in-Again-2 : goal.slice_bounds-put_body-end-in-Again-2
slice_bounds-put_body-end-in-Again-2 c = sym (length-take-le _ _ (again-fits _ _ c.requires.0 _ _ _ c.put_body-first.ensures _ _ c.copy_first.ensures.value c.copy_first.ensures.out_after c.in-Again.is))

pub returns-in-Short : goal.returns-in-Short
returns-in-Short c =
    record { value = (answer-6 _ _ c.requires.0 _ _ _ c.put_body-first.ensures _ _ c.copy_first.ensures.value c.copy_first.ensures.out_after c.in-Short.is _ c.refuse.ensures).0; out_after = (answer-6 _ _ c.requires.0 _ _ _ c.put_body-first.ensures _ _ c.copy_first.ensures.value c.copy_first.ensures.out_after c.in-Short.is _ c.refuse.ensures).1 }

pub returns-in-Again : goal.returns-in-Again
returns-in-Again c =
    record { value = (answer-written _ _ c.requires.0 _ _ _ c.put_body-first.ensures _ _ c.copy_first.ensures.value c.copy_first.ensures.out_after c.in-Again.is _ _ c.put_body.ensures).0; out_after = (answer-written _ _ c.requires.0 _ _ _ c.put_body-first.ensures _ _ c.copy_first.ensures.value c.copy_first.ensures.out_after c.in-Again.is _ _ c.put_body.ensures).1 }

pub returns-in-Done : goal.returns-in-Done
returns-in-Done c =
    record { value = (answer-copied _ _ c.requires.0 _ _ _ c.put_body-first.ensures _ _ c.copy_first.ensures.value c.copy_first.ensures.out_after c.in-Done.is).0; out_after = (answer-copied _ _ c.requires.0 _ _ _ c.put_body-first.ensures _ _ c.copy_first.ensures.value c.copy_first.ensures.out_after c.in-Done.is).1 }
