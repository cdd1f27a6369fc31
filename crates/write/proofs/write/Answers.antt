-- `write::write` meets its contract: each way out has its law in `Ends`.
use Rattle.write.proofs.Ends.{answer-11, answer-1, answer-6, again-fits, answer-copied, answer-written}
use mathlib.Core.Path.{sym}
use lib.Seq.{length-take-le}
use Rattle.write.proofs.write.Goals as goal

pub returns-in-Err : goal.returns-in-Err
returns-in-Err c = let w = answer-11 c.args.lines.now c.args.out.now _ _ _ c.in-Err.ensures in record { value = w.0; out_after = w.1 }

pub returns-then-length-gt-MOST : goal.returns-then-length-gt-MOST
returns-then-length-gt-MOST c = let w = answer-1 c.args.lines.now c.args.out.now _ _ _ c.in-Ok.ensures c.if-length-gt-MOST.true in record { value = w.0; out_after = w.1 }

pub slice_bounds-put_lines-end-in-Again : goal.slice_bounds-put_lines-end-in-Again
slice_bounds-put_lines-end-in-Again c = again-fits c.args.lines.now c.args.out.now _ _ _ c.in-Ok.ensures c.if-length-gt-MOST.false _ _ c.copy_first.ensures.value c.copy_first.ensures.out_after c.in-Again.is

pub slice_bounds-put_lines-end-in-Again-2 : goal.slice_bounds-put_lines-end-in-Again-2
slice_bounds-put_lines-end-in-Again-2 c = sym (length-take-le _ _ (again-fits c.args.lines.now c.args.out.now _ _ _ c.in-Ok.ensures c.if-length-gt-MOST.false _ _ c.copy_first.ensures.value c.copy_first.ensures.out_after c.in-Again.is))

pub returns-in-Short : goal.returns-in-Short
returns-in-Short c = let w = answer-6 c.args.lines.now c.args.out.now _ _ _ c.in-Ok.ensures c.if-length-gt-MOST.false _ _ c.copy_first.ensures.value c.copy_first.ensures.out_after c.in-Short.is in record { value = w.0; out_after = w.1 }

pub returns-in-Again : goal.returns-in-Again
returns-in-Again c = let w = answer-written c.args.lines.now c.args.out.now _ _ _ c.in-Ok.ensures c.if-length-gt-MOST.false _ _ c.copy_first.ensures.value c.copy_first.ensures.out_after c.in-Again.is _ _ c.put_lines-in-Again.ensures in record { value = w.0; out_after = w.1 }

pub returns-in-Done : goal.returns-in-Done
returns-in-Done c = let w = answer-copied c.args.lines.now c.args.out.now _ _ _ c.in-Ok.ensures c.if-length-gt-MOST.false _ _ c.copy_first.ensures.value c.copy_first.ensures.out_after c.in-Done.is in record { value = w.0; out_after = w.1 }
