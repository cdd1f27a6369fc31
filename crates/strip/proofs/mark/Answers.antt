-- `strip::mark` meets its contract: there is room for a mark of each field, and one law for each way out.
use mathlib.Core.Path.{refl, sym}
use lib.Seq.{length-take-le}
use Rattle.strip.proofs.Ends.{mark-refused, mark-6, mark-0, marks-room, room-for-all}
use Rattle.strip.proofs.mark.Goals as goal

pub returns-then-found-ne-DONE : goal.returns-then-found-ne-DONE
returns-then-found-ne-DONE c =
    record { value = (mark-refused c.args.s.now c.args.list.now _ _ _ _ _ c.sift_listed-found.ensures c.if-found-ne-DONE.true c.args.out.now _ c.refuse_marks.ensures).0; out_after = (mark-refused c.args.s.now c.args.list.now _ _ _ _ _ c.sift_listed-found.ensures c.if-found-ne-DONE.true c.args.out.now _ c.refuse_marks.ensures).1 }

pub returns-then-found-out : goal.returns-then-found-out
returns-then-found-out c =
    record { value = (mark-6 c.args.s.now c.args.list.now _ _ _ _ _ c.sift_listed-found.ensures c.if-found-ne-DONE.false c.args.out.now _ c.if-found-out.true c.refuse_marks-then-found-out.ensures).0; out_after = (mark-6 c.args.s.now c.args.list.now _ _ _ _ _ c.sift_listed-found.ensures c.if-found-ne-DONE.false c.args.out.now _ c.if-found-out.true c.refuse_marks-then-found-out.ensures).1 }

pub slice_bounds-marks-end : goal.slice_bounds-marks-end
slice_bounds-marks-end c = marks-room c.args.s.now c.args.list.now _ _ _ _ _ c.sift_listed-found.ensures c.if-found-ne-DONE.false (room-for-all c.args.s.now c.args.list.now _ _ _ _ _ c.sift_listed-found.ensures c.if-found-ne-DONE.false c.marks-marks.result c.marks-marks.ensures.value_2)

pub slice_bounds-put_text-end : goal.slice_bounds-put_text-end
slice_bounds-put_text-end c = sym (length-take-le _ _ (marks-room c.args.s.now c.args.list.now _ _ _ _ _ c.sift_listed-found.ensures c.if-found-ne-DONE.false (room-for-all c.args.s.now c.args.list.now _ _ _ _ _ c.sift_listed-found.ensures c.if-found-ne-DONE.false c.marks-marks.result c.marks-marks.ensures.value_2)))

pub returns : goal.returns
returns c =
    record { value = (mark-0 c.args.s.now c.args.list.now _ _ _ _ _ c.sift_listed-found.ensures c.if-found-ne-DONE.false (room-for-all c.args.s.now c.args.list.now _ _ _ _ _ c.sift_listed-found.ensures c.if-found-ne-DONE.false c.marks-marks.result c.marks-marks.ensures.value_2) c.args.out.now _ _ _ c.if-found-out.false c.put_text.ensures refl).0; out_after = (mark-0 c.args.s.now c.args.list.now _ _ _ _ _ c.sift_listed-found.ensures c.if-found-ne-DONE.false (room-for-all c.args.s.now c.args.list.now _ _ _ _ _ c.sift_listed-found.ensures c.if-found-ne-DONE.false c.marks-marks.result c.marks-marks.ensures.value_2) c.args.out.now _ _ _ c.if-found-out.false c.put_text.ensures refl).1 }
