-- `command_log::put_log` meets its contract: the lines by the marks of the fields, or nothing where the first step of stripping refuses.
use native.Mathlib.Omega.{arith}
use mathlib.Core.Path.{sym}
use lib.Seq.{length-take-le}
use Rattle.strip_steps_laws.proofs.Calls.{steps-room}
use Rattle.command_log.proofs.LogLines.{log-refused, log-marked}
use Rattle.command_log.proofs.put_log.Goals as goal

pub returns-then-m-ne-DONE : goal.returns-then-m-ne-DONE
returns-then-m-ne-DONE c = log-refused c.args.block.now c.args.list.now c.marks-marks.result _ _ c.mark-m.ensures.value c.mark-m.ensures.out_after (omega (arith, c.marks-marks.ensures.value_2)) c.if-m-ne-DONE.true c.args.out.now

pub slice_bounds-marks-end : goal.slice_bounds-marks-end
slice_bounds-marks-end c = steps-room c.args.block.now c.args.list.now c.marks-marks.result _ _ c.mark-m.ensures.value c.mark-m.ensures.out_after (omega (arith, c.marks-marks.ensures.value_2))

pub slice_bounds-put_lines-end : goal.slice_bounds-put_lines-end
slice_bounds-put_lines-end c = sym (length-take-le _ _ (steps-room c.args.block.now c.args.list.now c.marks-marks.result _ _ c.mark-m.ensures.value c.mark-m.ensures.out_after (omega (arith, c.marks-marks.ensures.value_2))))

pub returns : goal.returns
returns c = log-marked c.args.block.now c.args.list.now c.marks-marks.result _ _ c.mark-m.ensures.value c.mark-m.ensures.out_after (omega (arith, c.marks-marks.ensures.value_2)) c.if-m-ne-DONE.false c.args.out.now _ _ c.put_lines.ensures
