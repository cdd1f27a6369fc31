-- `command_subcommands::strip_in_steps` meets its contract: both calls together give what 01's stripping gives, since there is room for a mark of each field.
use native.Mathlib.Omega.{arith}
use mathlib.Core.Path.{refl, sym}
use lib.Seq.{length-take-le}
use Rattle.strip_steps_laws.proofs.Calls.{steps-room, steps-refused, steps-copied}
use Rattle.command_subcommands.proofs.strip_in_steps.Goals as goal

pub returns-then-m-ne-DONE : goal.returns-then-m-ne-DONE
returns-then-m-ne-DONE c =
    record { value = (steps-refused c.args.block.now c.args.list.now c.marks-marks.result _ _ c.mark-m.ensures.value c.mark-m.ensures.out_after (omega (arith, c.marks-marks.ensures.value_2)) c.if-m-ne-DONE.true c.args.out.now _ refl).0; out_after = (steps-refused c.args.block.now c.args.list.now c.marks-marks.result _ _ c.mark-m.ensures.value c.mark-m.ensures.out_after (omega (arith, c.marks-marks.ensures.value_2)) c.if-m-ne-DONE.true c.args.out.now _ refl).1 }

pub slice_bounds-marks-end : goal.slice_bounds-marks-end
slice_bounds-marks-end c = steps-room c.args.block.now c.args.list.now c.marks-marks.result _ _ c.mark-m.ensures.value c.mark-m.ensures.out_after (omega (arith, c.marks-marks.ensures.value_2))

pub slice_bounds-copy-end : goal.slice_bounds-copy-end
slice_bounds-copy-end c = sym (length-take-le _ _ (steps-room c.args.block.now c.args.list.now c.marks-marks.result _ _ c.mark-m.ensures.value c.mark-m.ensures.out_after (omega (arith, c.marks-marks.ensures.value_2))))

pub returns : goal.returns
returns c =
    record { value = (steps-copied c.args.block.now c.args.list.now c.marks-marks.result _ _ c.mark-m.ensures.value c.mark-m.ensures.out_after (omega (arith, c.marks-marks.ensures.value_2)) c.if-m-ne-DONE.false c.args.out.now _ _ (c.copy.ensures.value, c.copy.ensures.out_after)).0; out_after = (steps-copied c.args.block.now c.args.list.now c.marks-marks.result _ _ c.mark-m.ensures.value c.mark-m.ensures.out_after (omega (arith, c.marks-marks.ensures.value_2)) c.if-m-ne-DONE.false c.args.out.now _ _ (c.copy.ensures.value, c.copy.ensures.out_after)).1 }
